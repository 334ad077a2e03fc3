use Rattle.std.proofs.Common.{◌*◌}
use Rattle.ibm_fields.specs.Fields.{bytes_at}
use Rattle.ibm_fields.proofs.Checks.{IsJoined}
use Rattle.ibm_fields.proofs.fields.check_of_bytes.Given as goal

abbrev pub invariant-loop-four : goal.invariant-loop-four
invariant-loop-four l = IsJoined l.fn.start l.check (bytes_at l.frame l.offset (4 * l.four))

abbrev pub invariant-loop-index : goal.invariant-loop-index
invariant-loop-index l = IsJoined l.fn.start l.check (bytes_at l.frame l.offset l.index)
