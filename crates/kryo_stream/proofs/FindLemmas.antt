-- The first number of a range that passes, and how many of a list pass.
use Rattle.std.proofs.Common.{◌≡◌, ◌≤◌, ◌<◌, ◌+◌, ◌-◌, ◌++◌, ◌&&◌, ℕ, zero, suc, Bool, true, false, cond, List, [], ◌∷◌, All, length, count_by, get_or, find, slice_get, take, drop, length-drop, refl, ap, sym, ◌∙◌, subst, arith, Option, Some, None, nat_lt, nat_le, inl, inr}
use Rattle.std.specs.List.{range_with_len}
use Rattle.std.specs.List.Sorted.{IsPartitionPoint, IsStrictlyIncreasing}
use Rattle.std.proofs.lemmas.List.{take-append-drop, length-take-le, get_or-take, get_or-drop, get_or_default}
use Rattle.std.proofs.lemmas.List.Kept.{AllPairs-from_increasing}
use Rattle.std.proofs.lemmas.Option.{get_or_from_slice_get, slice_get-get_or}
use Rattle.std.proofs.lemmas.List.Sums.{sum_by-cons, sum_by-append}
use Rattle.std.proofs.lemmas.List.Elements.{All-head, All-tail}
use Rattle.std.proofs.lemmas.Bool.{cases_lt}
use Rattle.std.proofs.lemmas.Bool.Decides.{nat_tests}

-- j is the first number from a on, below z, that passes
pub record IsFirst (p : ℕ → Bool) (a z j : ℕ) : Type 0 where
  pub from : a ≤ j
  pub to : j < z
  pub passes : p j ≡ true
  pub before : (i : ℕ) → a ≤ i → i < j → p i ≡ false

abbrev pub FindsFirst : (ℕ → Bool) → ℕ → ℕ → Option ℕ → Type 0
FindsFirst p a z (Some j) = IsFirst p a z j
FindsFirst p a z None = (i : ℕ) → a ≤ i → i < z → p i ≡ false

find-more : (p : ℕ → Bool) (a n : ℕ) (found : Option ℕ) → p a ≡ false → FindsFirst p (a + 1) ((a + 1) + n) found
    → FindsFirst p a (a + suc n) found
find-more p a n (Some j) here rest = record {
  from = omega (arith, rest.from);
  to = omega (arith, rest.to);
  passes = rest.passes;
  before = λ i low high. elim (cases_lt a i) [
    | inl inside ↦ rest.before i (omega arith) high
    | inr at ↦ subst (λ k. p k ≡ false) (omega arith) here
  ];
}
find-more p a n None here rest = λ i low high. elim (cases_lt a i) [
  | inl inside ↦ rest i (omega arith) (omega arith)
  | inr at ↦ subst (λ k. p k ≡ false) (omega arith) here
]

pub find-range : (p : ℕ → Bool) (a n : ℕ) → FindsFirst p a (a + n) (find p (range_with_len a n))
find-range p a zero = λ i low high. absurd (omega arith)
find-range p a (suc n) =
    elim (p a) as (λ b. p a ≡ b → FindsFirst p a (a + suc n) (cond b (Some a) (find p (range_with_len (a + 1) n)))) [
      | true ↦ λ e. record { from = omega arith; to = omega arith; passes = e; before = λ i low high. absurd (omega arith) }
      | false ↦ λ e. find-more p a n (find p (range_with_len (a + 1) n)) e (find-range p (a + 1) n)
    ] refl

-- what an element counts for
abbrev pub one_if : Bool → ℕ
one_if b = cond b 1 0

pub count_by-cons : {X : Type 0} (p : X → Bool) (x : X) (xs : List X) → count_by p (x ∷ xs) ≡ one_if (p x) + count_by p xs
count_by-cons p x xs = sum_by-cons (λ y. cond (p y) 1 0) x xs

pub count_by-append : {X : Type 0} (p : X → Bool) (xs ys : List X) → count_by p (xs ++ ys) ≡ count_by p xs + count_by p ys
count_by-append p xs ys = sum_by-append (λ y. cond (p y) 1 0) xs ys

pub count_by-all : {X : Type 0} (p : X → Bool) (xs : List X) → All (λ x. p x ≡ true) xs → count_by p xs ≡ length xs
count_by-all p [] all = refl
count_by-all p (x ∷ xs) all =
    let one : one_if (p x) ≡ one_if true = ap one_if (All-head (λ y. p y ≡ true) x xs all) in
    omega (arith, count_by-cons p x xs, one, count_by-all p xs (All-tail (λ y. p y ≡ true) x xs all))

pub count_by-none : {X : Type 0} (p : X → Bool) (xs : List X) → All (λ x. p x ≡ false) xs → count_by p xs ≡ 0
count_by-none p [] none = refl
count_by-none p (x ∷ xs) none =
    let zero_here : one_if (p x) ≡ one_if false = ap one_if (All-head (λ y. p y ≡ false) x xs none) in
    omega (arith, count_by-cons p x xs, zero_here, count_by-none p xs (All-tail (λ y. p y ≡ false) x xs none))

-- two tests that agree on each element
pub count_by-same : {X : Type 0} (p q : X → Bool) (xs : List X) → All (λ x. p x ≡ q x) xs → count_by p xs ≡ count_by q xs
count_by-same p q [] same = refl
count_by-same p q (x ∷ xs) same =
    let here : one_if (p x) ≡ one_if (q x) = ap one_if (All-head (λ y. p y ≡ q y) x xs same) in
    omega (
      arith,
      count_by-cons p x xs,
      count_by-cons q x xs,
      here,
      count_by-same p q xs (All-tail (λ y. p y ≡ q y) x xs same),
    )

between_one : (low high x : ℕ) → low ≤ high
    → one_if (nat_le low x && nat_lt x high) + one_if (nat_lt x low) ≡ one_if (nat_lt x high)
between_one low high x order = grind (arith, nat_tests)

-- those between two bounds are those below the higher without those below the lower
pub count_by-between : (low high : ℕ) (xs : List ℕ) → low ≤ high
    → count_by (λ x. nat_le low x && nat_lt x high) xs + count_by (λ x. nat_lt x low) xs ≡ count_by (λ x. nat_lt x high) xs
count_by-between low high [] order = refl
count_by-between low high (x ∷ xs) order =
    omega (
      arith,
      count_by-cons (λ x. nat_le low x && nat_lt x high) x xs,
      count_by-cons (λ x. nat_lt x low) x xs,
      count_by-cons (λ x. nat_lt x high) x xs,
      between_one low high x order,
      count_by-between low high xs order,
    )

-- a partition point counts the elements that pass
pub count_by-partition_point : (p : ℕ → Bool) (xs : List ℕ) (i : ℕ) → i ≤ length xs
    → IsPartitionPoint (λ y. p y ≡ true) (λ y. p y ≡ false) xs i → i ≡ count_by p xs
count_by-partition_point p xs i bound point =
    let whole : take i xs ++ drop i xs ≡ xs = take-append-drop i xs in
    let front : All (λ y. p y ≡ true) (take i xs) = λ k d below.
    let inside : k < i = omega (arith, length-take-le i xs bound) in
    rw (get_or-take i xs k d inside) (point.0 k d (omega arith) inside) in
    let behind : All (λ y. p y ≡ false) (drop i xs) = λ k d below.
    rw (get_or-drop i xs k d) (point.1 (i + k) d (omega arith) (omega (arith, length-drop i xs))) in
    sym (ap (count_by p) (sym whole) ∙ count_by-append p (take i xs) (drop i xs)
    ∙ omega (arith, count_by-all p (take i xs) front, count_by-none p (drop i xs) behind, length-take-le i xs bound))

-- the last of the first i
pub get_or-last_passing : (xs : List ℕ) (i limit : ℕ) → ((k : ℕ) (d : ℕ) → 0 ≤ k → k < i → get_or xs k d ≤ limit)
    → get_or (0 ∷ xs) i 0 ≤ limit
get_or-last_passing xs zero limit passes = omega arith
get_or-last_passing xs (suc i) limit passes = passes i 0 (omega arith) (omega arith)

-- in a list that rises strictly, what is above the last number is above all
pub All-below_last : (xs : List ℕ) (t : ℕ) → IsStrictlyIncreasing xs → (0 < length xs → get_or xs (length xs - 1) 0 < t)
    → All (λ x. x < t) xs
All-below_last xs t rising above = λ k d below.
    let here : get_or xs k d ≡ get_or xs k 0 = get_or_default xs k d 0 below in
    let top : get_or xs (length xs - 1) 0 < t = above (omega arith) in
    elim (cases_lt k (length xs - 1)) [
      | inl lower ↦ (let pair : get_or xs k d < get_or xs (length xs - 1) d =
          AllPairs-from_increasing xs rising k (length xs - 1) d lower (omega arith) in
          omega (arith, pair, top, get_or_default xs (length xs - 1) d 0 (omega arith)))
      | inr last ↦ (let at : k ≡ length xs - 1 = omega arith in
          omega (arith, here, top, ap (λ n. get_or xs n 0) at))
    ]

-- the last number, as a call of `last` gives it
pub last_below : (xs : List ℕ) (n x : ℕ) → Some x ≡ slice_get xs (length xs - 1) → x < n
    → 0 < length xs → get_or xs (length xs - 1) 0 < n
last_below xs n x is below some =
    let e : get_or xs (length xs - 1) 0 ≡ x = get_or_from_slice_get xs (length xs - 1) x 0 (sym is) in
    omega (arith, e, below)

pub none_below : (xs : List ℕ) (n : ℕ) → None ≡ slice_get xs (length xs - 1) → 0 < length xs → get_or xs (length xs - 1) 0 < n
none_below xs n is some =
    let inside : length xs - 1 < length xs = omega arith in
    absurd (none_some (get_or xs (length xs - 1) 0) (is ∙ slice_get-get_or xs (length xs - 1) 0 inside))
  where
    none_some : (x : ℕ) → None ≡ Some x → ⊥
    none_some x e = cc
