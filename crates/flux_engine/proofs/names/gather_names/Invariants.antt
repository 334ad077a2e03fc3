use Rattle.std.proofs.Common.{length, ◌-◌}
use Rattle.flux_engine.proofs.NameWalks.{NameWalk}
use Rattle.flux_engine.proofs.names.gather_names.Given as goal

abbrev pub invariant-loop-cell : goal.invariant-loop-cell
invariant-loop-cell g l = record {
  walk : NameWalk (g.R.Recording.named_at l.recording) (g.R.Recording.whole_data_of l.recording) l.flux.times l.flux.indexes l.cells.cells l.capture l.clock
      (g.met.R.Recording.one_name l.recording) l.from l.passed l.initial.others l.others;
}

abbrev pub decreases-loop-cell : goal.decreases-loop-cell
decreases-loop-cell g l = length l.cells.cells - l.from
