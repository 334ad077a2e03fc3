-- The first number of a range that passes a test.
use Rattle.std.specs.Prelude.{◌≡◌, ◌≤◌, ◌<◌, ℕ, zero, suc, ◌+◌, Bool, true, false, cond, find}
use Rattle.std.specs.Prelude.{Option, Some, None, refl}
use Rattle.std.specs.List.{range_with_len}
use Rattle.std.proofs.Common.{ap, sym, ◌∙◌, arith}

pub find-first : (f : ℕ → Bool) (a n m : ℕ) → n < m → ((k : ℕ) → a ≤ k → k < a + n → f k ≡ false)
    → f (a + n) ≡ true
    → find f (range_with_len a m) ≡ Some (a + n)
find-first f a n zero low misses hit = absurd (omega arith)
find-first f a zero (suc m) low misses hit =
    let here : a + 0 ≡ a = omega arith in
    ap (λ b. cond b (Some a) (find f (range_with_len (a + 1) m))) (sym (ap f here) ∙ hit)
    ∙ ap Some (sym here)
find-first f a (suc n) (suc m) low misses hit =
    let next : (a + 1) + n ≡ a + suc n = omega arith in
    ap (λ b. cond b (Some a) (find f (range_with_len (a + 1) m)))
    (misses a (omega arith) (omega arith))
    ∙ find-first f (a + 1) n m (omega arith)
    (λ k above below. misses k (omega (arith, above)) (omega (arith, below))) (ap f next ∙ hit)
    ∙ ap Some next

pub find-none : (f : ℕ → Bool) (a m : ℕ) → ((k : ℕ) → a ≤ k → k < a + m → f k ≡ false)
    → find f (range_with_len a m) ≡ None
find-none f a zero misses = refl
find-none f a (suc m) misses =
    ap (λ b. cond b (Some a) (find f (range_with_len (a + 1) m)))
    (misses a (omega arith) (omega arith))
    ∙ find-none f (a + 1) m
    (λ k above below. misses k (omega (arith, above)) (omega (arith, below)))

below_by : (a m k : ℕ) (rest : Option ℕ) (b : Bool) → cond b (Some a) rest ≡ Some k
    → (rest ≡ Some k → k < a + 1 + m) → k < a + suc m
below_by a m k rest true is later = let same : a ≡ k = cc in omega (arith, same)
below_by a m k rest false is later = let below = later is in omega (arith, below)

-- a number that is found is one of the range
pub find-below : (f : ℕ → Bool) (a m k : ℕ) → find f (range_with_len a m) ≡ Some k → k < a + m
find-below f a zero k is = absurd (cc)
find-below f a (suc m) k is = below_by a m k (find f (range_with_len (a + 1) m)) (f a) is
    (λ more. find-below f (a + 1) m k more)
