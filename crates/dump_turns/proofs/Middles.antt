-- Two lists of the same numbers in order have the same number at each place.
use Rattle.std.proofs.Common.{◌≡◌, ◌≤◌, ◌<◌, ◌⊎◌, ◌+◌, ◌/◌, ◌-◌, ℕ, zero, suc, Bool, true, false, List, [], ◌∷◌, length, get_or, Option, Some, None, refl, sym, ap, ◌∙◌, inl, inr, arith}
use Rattle.std.specs.Prelude.{IsPermutation, cond, nat_le, sum_by, slice_get}
use Rattle.std.specs.List.Sorted.{IsNonDecreasing}
use Rattle.std.proofs.lemmas.Bool.{cases_lt, le-leb, leb-true}
use Rattle.std.proofs.lemmas.List.Sums.{sum_by-cons}
use Rattle.std.proofs.lemmas.List.Sorted.{length_permutation, sum_by-IsPermutation}
use Rattle.std.proofs.lemmas.Option.{get_or_from_slice_get, slice_get_within}
use Rattle.dump_turns.specs.Spreads.{IsSpread, IsSpreadOf}
use Rattle.dump_turns.specs.declared.spread.Spread.{Spread}

-- how many are at most so great
abbrev up_to : ℕ → ℕ → ℕ
up_to most x = cond (nat_le x most) 1 0

counted : (x most : ℕ) → x ≤ most → up_to most x ≡ 1
counted x most low = ap (λ (b : Bool). cond b 1 0) (le-leb x most low)

few : (x most : ℕ) → up_to most x ≤ 1
few x most = by (nat_le x most)
  where
    by : (b : Bool) → cond b 1 0 ≤ 1
    by true = omega arith
    by false = omega arith

not-counted : (x most : ℕ) → most < x → up_to most x ≡ 0
not-counted x most above = by (nat_le x most) (leb-true x most)
  where
    by : (b : Bool) → (b ≡ true → x ≤ most) → ◌≡◌ {A = ℕ} (cond b 1 0) 0
    by true low = (let below = low refl in absurd (omega (arith, below, above)))
    by false low = refl

-- the first ones are, so at least they are counted
at-least : (xs : List ℕ) (most k : ℕ) → k ≤ length xs → ((i : ℕ) → i < k → get_or xs i 0 ≤ most) → k ≤ sum_by (up_to most) xs
at-least [] most k within each = within
at-least (x ∷ xs) most zero within each = omega arith
at-least (x ∷ xs) most (suc k) within each =
    let here = counted x most (each 0 (omega arith)) in
    let more = at-least xs most k (omega (arith, within)) (λ i low. each (suc i) (omega (arith, low))) in
    omega (arith, sum_by-cons (up_to most) x xs, here, more)

-- those from one on are not, so at most those before it are
at-most : (xs : List ℕ) (most k : ℕ) → ((i : ℕ) → k ≤ i → i < length xs → most < get_or xs i 0) → sum_by (up_to most) xs ≤ k
at-most [] most k each = omega arith
at-most (x ∷ xs) most zero each =
    let here = not-counted x most (each 0 (omega arith) (omega arith)) in
    let more = at-most xs most 0 (λ i past low. each (suc i) (omega arith) (omega (arith, low))) in
    omega (arith, sum_by-cons (up_to most) x xs, here, more)
at-most (x ∷ xs) most (suc k) each =
    let here = few x most in
    let more = at-most xs most k (λ i past low. each (suc i) (omega (arith, past)) (omega (arith, low))) in
    omega (arith, sum_by-cons (up_to most) x xs, here, more)

module _ (xs ys : List ℕ) (rises : IsNonDecreasing xs) (rises' : IsNonDecreasing ys) (k : ℕ) where
  -- what stands in one at a place is not below what stands there in the other
  not-below : (most : ℕ) → sum_by (up_to most) xs ≡ sum_by (up_to most) ys → k < length xs → get_or xs k 0 ≡ most → most < get_or ys k 0 → ⊥
  not-below most same within is above =
      let low = at-least xs most (k + 1) (omega (arith, within))
      (λ i below. let up = rises i k 0 (omega (arith, below)) within in omega (arith, up, is)) in
      let high = at-most ys most k (λ i past inside. let up = rises' k i 0 past inside in omega (arith, up, above)) in
      omega (arith, low, high, same)

module _ (means xs ys : List ℕ) (first : IsPermutation means xs) (second : IsPermutation means ys) (rises : IsNonDecreasing xs) (rises' : IsNonDecreasing ys) (k x y : ℕ)
    (at : slice_get xs k ≡ Some x) (at' : slice_get ys k ≡ Some y) where
  same-count : (most : ℕ) → sum_by (up_to most) xs ≡ sum_by (up_to most) ys
  same-count most = sum_by-IsPermutation (up_to most) means xs first ∙ sym (sum_by-IsPermutation (up_to most) means ys second)

  here : get_or xs k 0 ≡ x
  here = get_or_from_slice_get xs k x 0 at

  there : get_or ys k 0 ≡ y
  there = get_or_from_slice_get ys k y 0 at'

  by-order : (x < y) ⊎ (y ≤ x) → (y < x) ⊎ (x ≤ y) → x ≡ y
  by-order (inl less) other = absurd (not-below xs ys rises rises' k x (same-count x) (slice_get_within xs k x at) here (let e = there in omega (arith, less, e)))
  by-order (inr most) (inl less) = absurd (not-below ys xs rises' rises k y (sym (same-count y)) (slice_get_within ys k y at') there (let e = here in omega (arith, less, e)))
  by-order (inr most) (inr least) = omega (arith, most, least)

  one-place : x ≡ y
  one-place = by-order (cases_lt x y) (cases_lt y x)

one-spread : (means : List ℕ) (a b : Spread) → IsSpread means a → IsSpread means b → a ≡ b
one-spread means a b p q =
    let place : (k x y : ℕ) → slice_get p.sorted k ≡ Some x → slice_get q.sorted k ≡ Some y → x ≡ y =
    one-place means p.sorted q.sorted p.same q.same p.order q.order in
    ap (λ (n : ℕ). record { least = n; median = a.median; greatest = a.greatest }) (place 0 a.least b.least p.least q.least)
    ∙ ap (λ (n : ℕ). record { least = b.least; median = n; greatest = a.greatest }) (place (length means / 2) a.median b.median p.median q.median)
    ∙ ap (λ (n : ℕ). record { least = b.least; median = b.median; greatest = n }) (place (length means - 1) a.greatest b.greatest p.greatest q.greatest)

no-spread : (means : List ℕ) (a : Spread) → IsSpread means a → means ≡ [] → ⊥
no-spread means a p none =
    let low = slice_get_within p.sorted 0 a.least p.least in
    let long = length_permutation means p.sorted p.same in
    let empty : length means ≡ 0 = ap length none in
    omega (arith, low, long, empty)

-- so how far they lie apart is one answer
pub one-spread-of : (means : List ℕ) (a b : Option Spread) → IsSpreadOf means a → IsSpreadOf means b → a ≡ b
one-spread-of means None None p q = refl
one-spread-of means None (Some b) p q = absurd (no-spread means b q p)
one-spread-of means (Some a) None p q = absurd (no-spread means a p q)
one-spread-of means (Some a) (Some b) p q = ap Some (one-spread means a b p q)
