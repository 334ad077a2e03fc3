use Rattle.std.proofs.Common.{length, ◌-◌}
use Rattle.flux_engine.specs.Gathering.{IsWalk, ReadBefore}
use Rattle.flux_engine.proofs.gathering.gather.Given as goal

abbrev pub invariant-loop-cell : goal.invariant-loop-cell
invariant-loop-cell g l =
    IsWalk (ReadBefore (g.R.Recording.header_at l.recording l.track) (g.R.Recording.sector_at l.recording l.track) l.cells.cells l.from)
    l.flux.times l.flux.indexes l.cells.cells l.capture l.clock l.from l.passed l.initial.book l.book

abbrev pub decreases-loop-cell : goal.decreases-loop-cell
decreases-loop-cell g l = length l.cells.cells - l.from
