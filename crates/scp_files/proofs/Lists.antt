-- Lists of times that rise.
use Rattle.std.proofs.Common.{◌≡◌, ◌≤◌, ◌<◌, ◌+◌, ◌-◌, ◌++◌, ◌&&◌, ℕ, zero, suc, Bool, true, false, List, [], ◌∷◌, All, length, get_or, refl, ap, ◌∙◌, arith, inl, inr}
use Rattle.std.specs.List.{list_all, range_with_len}
use Rattle.std.specs.List.Sorted.{IsStrictlyIncreasing}
use Rattle.std.proofs.lemmas.Bool.{cases_lt}
use Rattle.std.proofs.lemmas.List.{get_or_default}
use Rattle.track_rings.specs.Rings.{last_in}

-- so many steps on, what rises is no lower
rises_by : (n : ℕ) (xs : List ℕ) (k : ℕ) → IsStrictlyIncreasing xs → k + n < length xs → get_or xs k 0 ≤ get_or xs (k + n) 0
rises_by zero xs k rising inside = omega (arith, ap (λ i. get_or xs i 0) (let e : k + 0 ≡ k = omega arith in e))
rises_by (suc n) xs k rising inside =
    let next : (k + n) + 1 ≡ k + suc n = omega arith in
    omega (
      arith,
      rises_by n xs k rising (omega (arith, inside)),
      rising (k + n) (omega (arith, inside)),
      ap (λ i. get_or xs i 0) next,
    )

pub last-greatest : (xs : List ℕ) → IsStrictlyIncreasing xs → All (λ x. x ≤ last_in xs) xs
last-greatest xs rising k d inside =
    let n : ℕ = (length xs - 1) - k in
    let last : k + n ≡ length xs - 1 = omega (arith, inside) in
    omega (
      arith,
      rises_by n xs k rising (omega (arith, inside, last)),
      ap (λ i. get_or xs i 0) last,
      get_or_default xs k 0 d inside,
    )

-- a range with one number more
last_of : (a n j : ℕ) → a + n ≡ j → range_with_len a (suc n) ≡ range_with_len a n ++ j ∷ []
last_of a zero j is = ap (λ k. k ∷ []) (let e : a ≡ j = omega (arith, is) in e)
last_of a (suc n) j is = ap (λ xs. a ∷ xs) (last_of (a + 1) n j (omega (arith, is)))

pub range-more : (n : ℕ) → range_with_len 0 (n + 1) ≡ range_with_len 0 n ++ n ∷ []
range-more n =
    let next : n + 1 ≡ suc n = omega arith in
    ap (range_with_len 0) next ∙ last_of 0 n n (omega arith)

-- all numbers of a range pass, or one does not
pub all-pass : (test : ℕ → Bool) (a n : ℕ) → ((k : ℕ) → k < a + n → test k ≡ true) → list_all test (range_with_len a n) ≡ true
all-pass test a zero pass = refl
all-pass test a (suc n) pass =
    ap (λ b. b && list_all test (range_with_len (a + 1) n)) (pass a (omega arith)) ∙ all-pass test (a + 1) n (λ k below. pass k (omega (arith, below)))

and_false : (b : Bool) → (b && false) ≡ false
and_false true = refl
and_false false = refl

pub one-fails : (test : ℕ → Bool) (a n k : ℕ) → a ≤ k → k < a + n → test k ≡ false → list_all test (range_with_len a n) ≡ false
one-fails test a zero k from to fails = absurd (omega (arith, from, to))
one-fails test a (suc n) k from to fails = elim (cases_lt a k) [
  | inl later ↦ ap (λ b. test a && b) (one-fails test (a + 1) n k (omega (arith, later)) (omega (arith, to)) fails) ∙ and_false (test a)
  | inr here ↦ ap (λ b. b && list_all test (range_with_len (a + 1) n))
      (ap test (let e : a ≡ k = omega (arith, here, from) in e) ∙ fails)
]
