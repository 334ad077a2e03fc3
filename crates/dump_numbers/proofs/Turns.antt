-- The ones up to a place.
use Rattle.std.proofs.Common.{◌≡◌, ◌≤◌, ◌+◌, ◌∙◌, ℕ, Bool, List, length, take, ap, arith}
use Rattle.std.specs.Prelude.{cond}
use Rattle.std.proofs.lemmas.List.Sums.{count_by-le-length, sum_by-take-le}
use Rattle.cell_bits.specs.Ones.{ones}

-- a part has no more ones than all
pub ones_most : (cells : List Bool) (count : ℕ) → ones (take count cells) ≤ ones cells
ones_most cells count = sum_by-take-le (λ (cell : Bool). cond {A = ℕ} cell 1 0) cells count

-- a walk adds the ones on its way
pub ones_on : (cells : List Bool) (from to passed more : ℕ) → passed ≡ ones (take from cells) → ones (take from cells) + more ≡ ones (take to cells) → passed + more ≡ ones (take to cells)
ones_on cells from to passed more so_far on = ap (λ (n : ℕ). n + more) so_far ∙ on

-- they are no more than the cells
pub ones_few : (cells : List Bool) (count : ℕ) → ones (take count cells) ≤ length cells
ones_few cells count =
    let part = ones_most cells count in
    let all : ones cells ≤ length cells = count_by-le-length (λ (cell : Bool). cell) cells in
    omega (arith, part, all)
