-- What is shown of each number below another by a look at each of them.
use Rattle.std.proofs.Common.{◌≡◌, ℕ, zero, suc, ◌<◌, ◌≤◌, Bool, true, false, ◌&&◌, ◌⊎◌, inl, inr}
use Rattle.std.proofs.Common.{refl, subst, arith}
use Rattle.std.proofs.lemmas.Bool.{cases_lt}

-- the check holds of each number below n
unfoldable pub each_below : (ℕ → Bool) → ℕ → Bool
each_below check zero = true
each_below check (suc n) = check n && each_below check n

first_holds : (a b : Bool) → (a && b) ≡ true → a ≡ true
first_holds true b e = refl
first_holds false b e = e

second_holds : (a b : Bool) → (a && b) ≡ true → b ≡ true
second_holds true b e = e
second_holds false b e = cc

pub from_each : (check : ℕ → Bool) (n : ℕ) → each_below check n ≡ true → (k : ℕ) → k < n
    → check k ≡ true
unfolding each_below
from_each check zero all k within = absurd (omega arith)
from_each check (suc n) all k within =
    by_place (from_each check n (second_holds (check n) (each_below check n) all) k) (cases_lt k n)
  where
    by_place : (k < n → check k ≡ true) → (k < n) ⊎ (n ≤ k) → check k ≡ true
    by_place rest (inl below) = rest below
    by_place rest (inr last) = let e : n ≡ k = omega arith in
        subst (λ m. check m ≡ true) e (first_holds (check n) (each_below check n) all)
