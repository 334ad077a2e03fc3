use Rattle.std.proofs.Common.{length, drop, ◌-◌}
use Rattle.ibm_walks.specs.Headers.{HoldAt}
use Rattle.ibm_walks.proofs.Walks.{IsDataWalk}
use Rattle.ibm_walks.proofs.walk.note_held.Given as goal

abbrev pub invariant-loop-behind : goal.invariant-loop-behind
invariant-loop-behind g l =
    IsDataWalk (HoldAt (g.R.Recording.data_at l.recording (drop l.place l.cells.cells)) l.density (drop l.place l.cells.cells)) l.name l.from l.initial.book l.book

abbrev pub decreases-loop-behind : goal.decreases-loop-behind
decreases-loop-behind g l = length l.cells.cells - l.from
