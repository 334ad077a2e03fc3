use Rattle.std.proofs.Common.{◌≤◌, ◌-◌}
use Rattle.ibm_mfm.proofs.Searches.{NoSync}
use Rattle.ibm_mfm.proofs.data_field.next_sync.Given as goal

abbrev pub invariant-loop-place : goal.invariant-loop-place
invariant-loop-place l = record {
  low : l.fn.from ≤ l.start;
  high : l.start ≤ l.fn.to;
  none : NoSync l.frame l.fn.from l.start;
}

abbrev pub decreases-loop-place : goal.decreases-loop-place
decreases-loop-place l = l.fn.to - l.start
