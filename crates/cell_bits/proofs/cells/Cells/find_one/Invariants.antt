use Rattle.std.proofs.Common.{◌-◌, ◌≤◌}
use Rattle.cell_bits.specs.Search.{HasNoOne}
use Rattle.cell_bits.proofs.cells.Cells.find_one.Given as goal

abbrev pub invariant-loop-place : goal.invariant-loop-place
invariant-loop-place l = record { ahead : l.from ≤ l.place; passed : HasNoOne l.self.cells l.from l.place }

abbrev pub decreases-loop-place : goal.decreases-loop-place
decreases-loop-place l = l.end - l.place
