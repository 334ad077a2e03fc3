use Rattle.std.proofs.Common.{◌≡◌}
use Rattle.cell_bits.proofs.cells.Cells.keep_places.Given as goal

abbrev pub invariant-loop-place : goal.invariant-loop-place
invariant-loop-place l = l.self ≡ l.fn.self
