use Rattle.std.proofs.Common.{ℕ, ◌/◌, ◌<◌, ◌≤◌}
use Rattle.cell_bits.proofs.Dense.{IsDenseAt}
use Rattle.cell_bits.proofs.cells.Cells.is_dense.Given as goal

abbrev pub invariant-loop-index : goal.invariant-loop-index
invariant-loop-index l = (n : ℕ) → l.from / 64 ≤ n → n < l.index → IsDenseAt l.self.cells n
