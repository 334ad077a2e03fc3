use Rattle.std.proofs.Common.{◌≡◌, length, ◌-◌}
use Rattle.flux_engine.specs.Gathering.{IsControllerWalk}
use Rattle.flux_engine.proofs.gathering.gather_as_controller.Given as goal

abbrev pub invariant-loop-cell : goal.invariant-loop-cell
invariant-loop-cell g l = record {
  walk : IsControllerWalk (g.R.Recording.named_at l.recording) (g.R.Recording.header_at l.recording l.track) (g.R.Recording.data_at l.recording) (g.R.Recording.whole_data_of l.recording)
      l.flux.times l.flux.indexes l.cells.cells l.capture l.clock l.from l.passed l.initial.gathered.book l.gathered.book l.initial.gathered.others l.gathered.others;
  kept : l.gathered.passed ≡ l.initial.gathered.passed;
}

abbrev pub decreases-loop-cell : goal.decreases-loop-cell
decreases-loop-cell g l = length l.cells.cells - l.from
