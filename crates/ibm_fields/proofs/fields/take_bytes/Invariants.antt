use Rattle.std.proofs.Common.{◌≡◌, ◌*◌, length}
use Rattle.ibm_fields.specs.Fields.{bytes_at}
use Rattle.ibm_fields.proofs.fields.take_bytes.Given as goal

abbrev pub invariant-loop-four : goal.invariant-loop-four
invariant-loop-four l =
    (l.buffer.items ≡ bytes_at l.frame l.offset (4 * l.four))
    × (length l.buffer.items ≡ 4 * l.four)

abbrev pub invariant-loop-index : goal.invariant-loop-index
invariant-loop-index l =
    (l.buffer.items ≡ bytes_at l.frame l.offset l.index)
    × (length l.buffer.items ≡ l.index)
