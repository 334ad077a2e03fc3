use Rattle.std.proofs.Common.{◌≡◌, ◌≤◌, ◌*◌, take}
use Rattle.phase_loop.specs.inside.Certain.{cells_in}
use Rattle.phase_loop.proofs.phase.certain.cells_of.Given as goal

abbrev pub invariant-loop-place : goal.invariant-loop-place
invariant-loop-place l = (l.cells ≤ 255 * l.place) × (l.cells ≡ cells_in (take l.place l.counts))
