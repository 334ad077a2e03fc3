use Rattle.std.proofs.Common.{false, ◌≤◌, ◌-◌, ◌*◌}
use Rattle.flux_base.specs.Counts.{Counts}
use Rattle.flux_base.specs.World.{source_counts}
use Rattle.scp_notes.specs.inside.Walk.{HasSummed}
use Rattle.scp_notes.proofs.reading.sum_rest.Given as goal

abbrev pub invariant-loop-count : goal.invariant-loop-count
invariant-loop-count g l = record {
  summed : HasSummed (g.S.Source.left l.initial.source) (g.S.Source.left l.source) l.count l.total;
  most : l.total ≤ 255 * l.count;
  fits : l.count ≤ 4294971376;
  counts : Counts false (source_counts g.S.Source l.initial.source) (source_counts g.S.Source l.source);
}

-- proposed from the loop's first test
abbrev pub decreases-loop-count : goal.decreases-loop-count
decreases-loop-count g l = 4294967280 - l.count
