use Rattle.std.proofs.Common.{◌-◌, ◌≤◌}
use Rattle.frame_law.proofs.Headers.{NoNamed}
use Rattle.frame_law.proofs.data_search.has_header.Given as goal

abbrev pub invariant-loop-place : goal.invariant-loop-place
invariant-loop-place g l = record {
  low : l.fn.from ≤ l.start;
  high : l.start ≤ l.to;
  none : NoNamed (g.L.Layout.CODING.sync) (g.L.Layout.CODING.sync_cells) (g.L.Layout.header_end l.layout) (g.L.Layout.names l.layout) l.frame l.fn.from l.start;
}

abbrev pub decreases-loop-place : goal.decreases-loop-place
decreases-loop-place g l = l.to - l.start
