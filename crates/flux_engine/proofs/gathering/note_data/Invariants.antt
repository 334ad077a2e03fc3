use Rattle.std.proofs.Common.{length, drop, ◌-◌}
use Rattle.flux_engine.specs.Gathering.{IsDataWalk}
use Rattle.flux_engine.proofs.gathering.note_data.Given as goal

abbrev pub invariant-loop-place : goal.invariant-loop-place
invariant-loop-place g l =
    IsDataWalk (g.R.Recording.data_at l.recording (drop l.header.cell l.cells.cells)) l.from l.start l.header.sector l.header.place (length l.cells.cells)
    l.initial.book l.book

abbrev pub decreases-loop-place : goal.decreases-loop-place
decreases-loop-place g l = length l.cells.cells - l.start
