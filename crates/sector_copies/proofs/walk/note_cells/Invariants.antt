use Rattle.std.proofs.Common.{length, ◌-◌}
use Rattle.sector_copies.proofs.Walks.{IsHeaderWalk}
use Rattle.sector_copies.proofs.walk.note_cells.Given as goal

abbrev pub invariant-loop-cell : goal.invariant-loop-cell
invariant-loop-cell g l =
    IsHeaderWalk (g.R.Recording.header_at l.recording l.track) (g.R.Recording.data_at l.recording)
    l.flux.times l.flux.indexes l.cells.cells l.capture l.clock l.from l.passed l.initial.notes l.notes

abbrev pub decreases-loop-cell : goal.decreases-loop-cell
decreases-loop-cell g l = length l.cells.cells - l.from
