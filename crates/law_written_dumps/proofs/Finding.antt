-- A file among those that are written, and no other of its path before it.
use Rattle.std.proofs.Common.{◌≡◌, ◌<◌, ◌≤◌, inl, inr, ℕ, zero, suc, ◌+◌, Bool, true, false, cond, List, [], ◌∷◌, map, find, slice_get, refl, ap, subst, sym, ◌∙◌, arith, Option, Some, None}
use Rattle.std.proofs.lemmas.Bool.{cases_lt}
use Rattle.std.specs.List.{position_from, range_with_len}
use Rattle.std.specs.Option.{is_some}

-- a list in which nothing passes a test
none_passes : {X : Type 0} (test : X → Bool) (from : ℕ) (xs : List X) → position_from test from xs ≡ None → (n : ℕ) (x : X) → slice_get xs n ≡ Some x → test x ≡ false
none_passes test from [] none n x at = absurd (cc)
none_passes test from (y ∷ ys) none n x at = by (test y) refl n at none (λ rest m found. none_passes test (from + 1) ys rest m x found)
  where
    by : (b : Bool) → test y ≡ b → (m : ℕ) → slice_get (y ∷ ys) m ≡ Some x → cond b (Some from) (position_from test (from + 1) ys) ≡ None
        → (position_from test (from + 1) ys ≡ None → (k : ℕ) → slice_get ys k ≡ Some x → test x ≡ false) → test x ≡ false
    by true is m at passed rest = absurd (cc)
    by false is zero at passed rest = (let same : y ≡ x = cc in ap test (sym same) ∙ is)
    by false is (suc m) at passed rest = rest passed m at

pub none_at : {X : Type 0} (test : X → Bool) (xs : List X) → position_from test 0 xs ≡ None → (n : ℕ) (x : X) → slice_get xs n ≡ Some x → test x ≡ false
none_at test xs none n x at = none_passes test 0 xs none n x at

pub is_none : {X : Type 0} (o : Option X) → is_some o ≡ false → o ≡ None
is_none None is = refl
is_none (Some x) is = absurd (cc)

-- of what is made of numbers, one of which passes, the first that passes
pub find-made : {X : Type 0} (test : X → Bool) (make : ℕ → X) (from count i : ℕ) → from ≤ i → i < from + count → test (make i) ≡ true
    → (j : ℕ) × (from ≤ j) × (j < from + count) × (test (make j) ≡ true) × (find test (map make (range_with_len from count)) ≡ Some (make j))
find-made test make from zero i least below passes = absurd (omega (arith, least, below))
find-made {X} test make from (suc count) i least below passes =
    by (test (make from)) refl (λ behind. find-made test make (from + 1) count i behind (omega (arith, below)) passes)
  where
    Found : ℕ → ℕ → Option X → Type 0
    Found first most o = (j : ℕ) × (first ≤ j) × (j < most) × (test (make j) ≡ true) × (o ≡ Some (make j))

    differ : false ≡ true → ⊥
    differ e = cc

    by : (b : Bool) → test (make from) ≡ b → (from + 1 ≤ i → Found (from + 1) (from + 1 + count) (find test (map make (range_with_len (from + 1) count))))
        → Found from (from + suc count) (cond b (Some (make from)) (find test (map make (range_with_len (from + 1) count))))
    by true is rest = (from, omega arith, omega arith, is, refl)
    by false is rest = elim (cases_lt from i) [
      | inl before ↦
          let found = rest (omega (arith, before)) in
          (found.0, omega (arith, found.1), omega (arith, found.2), found.3, found.4)
      | inr none_before ↦
          let here : i ≡ from = omega (arith, none_before, least) in
          absurd (differ (sym is ∙ subst (λ (k : ℕ). test (make k) ≡ true) here passes))
    ]
