use Rattle.std.proofs.Common.{length, drop, ◌-◌}
use Rattle.sector_copies.proofs.Walks.{IsDataWalk}
use Rattle.sector_copies.proofs.walk.note_data.Given as goal

abbrev pub invariant-loop-begin : goal.invariant-loop-begin
invariant-loop-begin g l =
    IsDataWalk (g.R.Recording.data_at l.recording (drop l.cell l.cells.cells)) l.from l.start l.place (length l.cells.cells) l.initial.notes l.notes

abbrev pub decreases-loop-begin : goal.decreases-loop-begin
decreases-loop-begin g l = length l.cells.cells - l.start
