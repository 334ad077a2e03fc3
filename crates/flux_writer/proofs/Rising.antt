-- Index times that rise, before a time and after it.
use Rattle.std.proofs.Common.{◌≡◌, ◌≤◌, ◌<◌, ◌+◌, ◌++◌, ℕ, suc, Bool, true, false, cond, List, [], ◌∷◌, All, drop, get_or, nat_lt, refl, ap, sym, ◌∙◌, subst, arith, length-drop, inl, inr}
use Rattle.std.specs.List.{filter, AllPairs}
use Rattle.std.specs.List.Sorted.{IsNonDecreasing, IsStrictlyIncreasing}
use Rattle.std.proofs.lemmas.Bool.{cases_lt}
use Rattle.std.proofs.lemmas.Bool.Decides.{nat_tests}
use Rattle.std.proofs.lemmas.List.{get_or-drop, take-append-drop}
use Rattle.std.proofs.lemmas.List.Elements.{All-head, All-tail, All-cons, All-nil, All-weaker}
use Rattle.std.proofs.lemmas.List.Kept.{AllPairs-from_increasing}
use Rattle.flux_writer.specs.inside.Writing.{count_before, indexes_before, indexes_from}
use Rattle.flux_writer.specs.lemmas.FoundOnes.{Rises}
use Rattle.flux_writer.proofs.Steps.{indexes_before-yes, indexes_from-yes, indexes_before-no, indexes_from-no}

Rises-from_pairs : (xs : List ℕ) → AllPairs (λ x y. x < y) xs → Rises xs
Rises-from_pairs [] pairs = tt
Rises-from_pairs (x ∷ xs) pairs = (
  (λ k d below. pairs 0 (suc k) d (omega arith) (omega arith)),
  Rises-from_pairs xs (λ i j d before within. pairs (suc i) (suc j) d (omega arith) (omega arith)),
)

pub Rises-from_increasing : (xs : List ℕ) → IsStrictlyIncreasing xs → Rises xs
Rises-from_increasing xs rising = Rises-from_pairs xs (AllPairs-from_increasing xs rising)

pub IsStrictlyIncreasing-drop : (n : ℕ) (xs : List ℕ) → IsStrictlyIncreasing xs → IsStrictlyIncreasing (drop n xs)
IsStrictlyIncreasing-drop n xs rising k within =
    let next : n + (k + 1) ≡ (n + k) + 1 = omega arith in
    omega (
      arith,
      get_or-drop n xs k 0,
      get_or-drop n xs (k + 1) 0,
      ap (λ i. get_or xs i 0) next,
      rising (n + k) (omega (arith, length-drop n xs, within)),
    )

-- none is below one before it
abbrev pub Climbs : List ℕ → Type 0
Climbs [] = Unit {0}
Climbs (x ∷ xs) = All (λ y. x ≤ y) xs × Climbs xs

pub Climbs-from_sorted : (xs : List ℕ) → IsNonDecreasing xs → Climbs xs
Climbs-from_sorted [] order = tt
Climbs-from_sorted (x ∷ xs) order = (
  (λ k d below. order 0 (suc k) d (omega arith) (omega arith)),
  Climbs-from_sorted xs (λ i j d before within. order (suc i) (suc j) d (omega arith) (omega arith)),
)

Climbs-from_rises : (xs : List ℕ) → Rises xs → Climbs xs
Climbs-from_rises [] rises = tt
Climbs-from_rises (x ∷ xs) rises =
    (All-weaker (λ y. x < y) (λ y. x ≤ y) (λ y later. omega (arith, later)) xs rises.0, Climbs-from_rises xs rises.1)

pub Climbs-from_increasing : (xs : List ℕ) → IsStrictlyIncreasing xs → Climbs xs
Climbs-from_increasing xs rising = Climbs-from_rises xs (Rises-from_increasing xs rising)

-- those after a time are not before it
pub from_is_late : (time : ℕ) (xs : List ℕ) → Climbs xs → All (λ x. time ≤ x) (indexes_from time xs)
from_is_late time [] rises = All-nil (λ x. time ≤ x)
from_is_late time (x ∷ xs) rises = elim (cases_lt x time) [
  | inl before ↦ subst (All (λ y. time ≤ y)) (sym (indexes_from-yes time x xs before)) (from_is_late time xs rises.1)
  | inr behind ↦ subst (All (λ y. time ≤ y)) (sym (indexes_from-no time x xs behind))
      (All-cons (λ y. time ≤ y) x xs behind (All-weaker (λ y. x ≤ y) (λ y. time ≤ y) (λ y later. omega (arith, later, behind)) xs rises.0))
]

pub Climbs-from : (time : ℕ) (xs : List ℕ) → Climbs xs → Climbs (indexes_from time xs)
Climbs-from time [] rises = tt
Climbs-from time (x ∷ xs) rises = elim (cases_lt x time) [
  | inl before ↦ subst Climbs (sym (indexes_from-yes time x xs before)) (Climbs-from time xs rises.1)
  | inr behind ↦ subst Climbs (sym (indexes_from-no time x xs behind)) rises
]

-- none passes the test
pub filter-none : {X : Type 0} (test : X → Bool) (xs : List X) → All (λ x. test x ≡ false) xs → filter test xs ≡ []
filter-none test [] none = refl
filter-none test (x ∷ xs) none =
    ap (λ b. cond b (x ∷ filter test xs) (filter test xs)) (All-head (λ y. test y ≡ false) x xs none)
    ∙ filter-none test xs (All-tail (λ y. test y ≡ false) x xs none)

-- two tests that agree
pub filter-same : {X : Type 0} (p q : X → Bool) (xs : List X) → All (λ x. p x ≡ q x) xs → filter p xs ≡ filter q xs
filter-same p q [] same = refl
filter-same p q (x ∷ xs) same =
    ap (λ b. cond b (x ∷ filter p xs) (filter p xs)) (All-head (λ y. p y ≡ q y) x xs same)
    ∙ ap (λ rest. cond (q x) (x ∷ rest) rest) (filter-same p q xs (All-tail (λ y. p y ≡ q y) x xs same))

-- of numbers that rise, those below a time are the ones at the front
pub filter-before : (time : ℕ) (xs : List ℕ) → Climbs xs → filter (λ x. nat_lt x time) xs ≡ indexes_before time xs
filter-before time [] rises = refl
filter-before time (x ∷ xs) rises = elim (cases_lt x time) [
  | inl before ↦
      (let test : nat_lt x time ≡ true = grind (arith, nat_tests, before) in
      ap (λ b. cond b (x ∷ filter (λ y. nat_lt y time) xs) (filter (λ y. nat_lt y time) xs)) test
      ∙ ap (λ rest. x ∷ rest) (filter-before time xs rises.1) ∙ sym (indexes_before-yes time x xs before))
  | inr behind ↦
      filter-none (λ y. nat_lt y time) (x ∷ xs)
      (All-cons (λ y. nat_lt y time ≡ false) x xs (grind (arith, nat_tests, behind))
      (All-weaker (λ y. x ≤ y) (λ y. nat_lt y time ≡ false) (λ y later. grind (arith, nat_tests, behind, later)) xs rises.0))
      ∙ sym (indexes_before-no time x xs behind)
]

-- those before a time, and those after it, are all
pub before-from : (time : ℕ) (xs : List ℕ) → indexes_before time xs ++ indexes_from time xs ≡ xs
before-from time xs = take-append-drop (count_before time xs) xs

-- those at the front lie before the time
pub front_is_early : (time : ℕ) (xs : List ℕ) → All (λ x. x < time) (indexes_before time xs)
front_is_early time [] = All-nil (λ x. x < time)
front_is_early time (x ∷ xs) = elim (cases_lt x time) [
  | inl before ↦ subst (All (λ y. y < time)) (sym (indexes_before-yes time x xs before))
      (All-cons (λ y. y < time) x (indexes_before time xs) before (front_is_early time xs))
  | inr behind ↦ subst (All (λ y. y < time)) (sym (indexes_before-no time x xs behind)) (All-nil (λ y. y < time))
]
