use Rattle.std.proofs.Common.{◌≡◌, drop, take}
use Rattle.macintosh_gcr.proofs.data_field.take_content.Given as goal

abbrev pub invariant-loop-index : goal.invariant-loop-index
invariant-loop-index l = l.buffer.items ≡ take l.index (drop 12 l.plain)
