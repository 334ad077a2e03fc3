-- Zeros.
use Rattle.std.specs.Prelude.{◌≡◌, ◌≤◌, ℕ, zero, suc, List, ◌∷◌, take, replicate, refl}
use Rattle.std.proofs.Common.{ap, arith}

pub take-zeros : (n m : ℕ) → n ≤ m → take {A = ℕ} n (replicate m 0) ≡ replicate n 0
take-zeros zero m within = refl
take-zeros (suc n) zero within = absurd (omega arith)
take-zeros (suc n) (suc m) within = ap (λ (xs : List ℕ). 0 ∷ xs) (take-zeros n m (omega arith))
