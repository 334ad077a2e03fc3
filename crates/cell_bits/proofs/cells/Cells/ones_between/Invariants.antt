use Rattle.std.proofs.Common.{◌≡◌, ◌-◌, ◌≤◌}
use Rattle.cell_bits.specs.Ones.{ones_from_to}
use Rattle.cell_bits.proofs.cells.Cells.ones_between.Given as goal

abbrev pub invariant-loop-place : goal.invariant-loop-place
invariant-loop-place l = record { ahead : l.from ≤ l.place; within : l.place ≤ l.to; counted : l.total ≡ ones_from_to l.self.cells l.from l.place }

abbrev pub decreases-loop-place : goal.decreases-loop-place
decreases-loop-place l = l.to - l.place
