use Rattle.std.proofs.Common.{length, ◌-◌}
use Rattle.ibm_walks.proofs.Walks.{IsNameWalk}
use Rattle.ibm_walks.proofs.walk.note_in_cells.Given as goal

abbrev pub invariant-loop-place : goal.invariant-loop-place
invariant-loop-place l = IsNameWalk l.rate l.dump l.flux.times l.flux.indexes l.cells.cells l.from l.passed l.initial.book l.book

abbrev pub decreases-loop-place : goal.decreases-loop-place
decreases-loop-place l = length l.cells.cells - l.from
