use Rattle.std.proofs.Common.{◌≡◌, ◌*◌, length}
use Rattle.commodore_gcr.specs.Coding.{BytesAt}
use Rattle.commodore_gcr.proofs.fields.take_bytes.Given as goal

abbrev pub invariant-loop-group : goal.invariant-loop-group
invariant-loop-group l = BytesAt l.frame l.offset l.buffer.items × (length l.buffer.items ≡ 3 * l.group)
