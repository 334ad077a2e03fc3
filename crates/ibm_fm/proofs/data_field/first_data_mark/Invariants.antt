use Rattle.std.proofs.Common.{◌-◌, ◌≤◌}
use Rattle.ibm_fm.proofs.DataMarks.{NoDataMark}
use Rattle.ibm_fm.proofs.data_field.first_data_mark.Given as goal

abbrev pub invariant-loop-place : goal.invariant-loop-place
invariant-loop-place l = record {
  low : l.fn.from ≤ l.start;
  high : l.start ≤ l.end;
  none : NoDataMark l.frame l.fn.from l.start;
}

abbrev pub decreases-loop-place : goal.decreases-loop-place
decreases-loop-place l = l.end - l.start
