use Rattle.std.specs.Prelude.{◌-◌, length}
use Rattle.cell_bits.proofs.Copies.{AreLeft}
use Rattle.cell_bits.proofs.cells.Cells.append_from.Given as goal

abbrev pub invariant-loop-place : goal.invariant-loop-place
invariant-loop-place l = AreLeft l.fn.self l.self l.other.cells l.fn.from l.place

abbrev pub decreases-loop-place : goal.decreases-loop-place
decreases-loop-place l = length l.other.cells - l.place
