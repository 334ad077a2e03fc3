-- Elements of lists that pass tests.
use Rattle.std.proofs.lemmas.Bool.{cases_lt, eq-eqb, eqb-true}
use Rattle.std.proofs.lemmas.List.Kept.{AllPairs-filter}
use Rattle.std.proofs.lemmas.List.{get_or_default}
use Rattle.std.proofs.Common.{◌≡◌, ◌<◌, ◌≤◌, ◌⊎◌, ◌+◌, ◌∙◌, ◌&&◌, ◌||◌, ℕ, zero, suc, Bool, true, false, cond, List, [], ◌∷◌, length, filter, ap, refl, sym, subst, inl, inr, arith, not, nat_eq}
use Rattle.std.specs.Prelude.{Contains, count_by, sum_by, AllPairs, slice_index_or}
use Rattle.std.specs.List.{list_all, list_any, range_with_len}
use Rattle.std.proofs.lemmas.List.FromFn.{get_or-range_with_len, length-range_with_len}
use Rattle.std.proofs.lemmas.List.Sums.{count_by-le-length, sum_by-cons}
use Rattle.law_imd_tracks.specs.lemmas.Elements.{later_element}

pub no_element : {X : Type 0} (x : X) → Contains [] x → ⊥
no_element x has = let low = has.1 in omega (arith, low)

pub first_element : {X : Type 0} (x : X) (xs : List X) → Contains (x ∷ xs) x
first_element x xs = (0, omega arith, refl)

-- an element is the first one or a later one
pub which : {X : Type 0} (x y : X) (xs : List X) → Contains (x ∷ xs) y → (x ≡ y) ⊎ Contains xs y
which x y xs (zero, low, same) = inl same
which x y xs (suc k, low, same) = inr (k, omega (arith, low), same)

pub both : (a b : Bool) → (a && b) ≡ true → (a ≡ true) × (b ≡ true)
both true true is = (refl, refl)
both true false is = absurd (cc)
both false b is = absurd (cc)

pub differ : false ≡ true → ⊥
differ e = cc

-- the tests that elements pass
module _ {X : Type 0} (p : X → Bool) where
  pub all_pass : (xs : List X) (x : X) → list_all p xs ≡ true → Contains xs x → p x ≡ true
  all_pass [] x all has = absurd (no_element x has)
  all_pass (y ∷ ys) x all has =
      let parts = both (p y) (list_all p ys) all in
      elim (which y x ys has) [
        | inl same ↦ subst (λ (z : X). p z ≡ true) same parts.0
        | inr more ↦ all_pass ys x parts.1 more
      ]

  pub each_passes : (xs : List X) → ((x : X) → Contains xs x → p x ≡ true) → list_all p xs ≡ true
  each_passes [] each = refl
  each_passes (y ∷ ys) each = by (p y) (each y (first_element y ys)) (each_passes ys (λ x has. each x (later_element y x ys has)))
    where
      by : (b : Bool) → b ≡ true → list_all p ys ≡ true → (b && list_all p ys) ≡ true
      by true here rest = rest
      by false here rest = absurd (differ here)

  pub any_passes : (xs : List X) → list_any p xs ≡ true → (x : X) × Contains xs x × (p x ≡ true)
  any_passes [] any = absurd (differ any)
  any_passes (y ∷ ys) any = by (p y) refl any (any_passes ys)
    where
      by : (b : Bool) → p y ≡ b → (b || list_any p ys) ≡ true → (list_any p ys ≡ true → (x : X) × Contains ys x × (p x ≡ true)) → (x : X) × Contains (y ∷ ys) x × (p x ≡ true)
      by true is any rest = (y, first_element y ys, is)
      by false is any rest = let more = rest any in (more.0, later_element y more.0 ys more.1, more.2)

  pub filter_has : (xs : List X) (x : X) → Contains xs x → p x ≡ true → Contains (filter p xs) x
  filter_has [] x has is = has
  filter_has (y ∷ ys) x has is = by (p y) refl (which y x ys has) (λ more. filter_has ys x more is)
    where
      by : (b : Bool) → p y ≡ b → (y ≡ x) ⊎ Contains ys x → (Contains ys x → Contains (filter p ys) x) → Contains (cond b (y ∷ filter p ys) (filter p ys)) x
      by true here (inl same) rest = subst (λ (z : X). Contains (y ∷ filter p ys) z) same (first_element y (filter p ys))
      by true here (inr more) rest = later_element y x (filter p ys) (rest more)
      by false here (inl same) rest = absurd (differ (sym here ∙ ap p same ∙ is))
      by false here (inr more) rest = rest more

  pub all_kept : (xs : List X) → ((x : X) → Contains xs x → p x ≡ true) → length (filter p xs) ≡ length xs
  all_kept [] all = refl
  all_kept (y ∷ ys) all = by (p y) (all y (first_element y ys)) (all_kept ys (λ x has. all x (later_element y x ys has)))
    where
      by : (b : Bool) → b ≡ true → length (filter p ys) ≡ length ys → length (cond b (y ∷ filter p ys) (filter p ys)) ≡ suc (length ys)
      by true here rest = ap suc rest
      by false here rest = absurd (differ here)

  pub filter_from : (xs : List X) (x : X) → Contains (filter p xs) x → Contains xs x × (p x ≡ true)
  filter_from [] x has = absurd (no_element x has)
  filter_from (y ∷ ys) x has = by (p y) refl has (λ more. let rest = filter_from ys x more in (later_element y x ys rest.0, rest.1))
    where
      by : (b : Bool) → p y ≡ b → Contains (cond b (y ∷ filter p ys) (filter p ys)) x → (Contains (filter p ys) x → Contains (y ∷ ys) x × (p x ≡ true))
          → Contains (y ∷ ys) x × (p x ≡ true)
      by true here has rest = elim (which y x (filter p ys) has) [
        | inl same ↦ (subst (λ (z : X). Contains (y ∷ ys) z) same (first_element y ys), subst (λ (z : X). p z ≡ true) same here)
        | inr more ↦ rest more
      ]
      by false here has rest = rest has

  pub count-cons : (x : X) (xs : List X) → count_by p (x ∷ xs) ≡ cond (p x) 1 0 + count_by p xs
  count-cons x xs = sum_by-cons (λ (y : X). cond (p y) 1 0) x xs

  pub none_counted : (xs : List X) (x : X) → count_by p xs ≡ 0 → Contains xs x → p x ≡ false
  none_counted [] x none has = absurd (no_element x has)
  none_counted (y ∷ ys) x none has = by (p y) refl (count-cons y ys) (which y x ys has) (none_counted ys x)
    where
      by : (b : Bool) → p y ≡ b → count_by p (y ∷ ys) ≡ cond b 1 0 + count_by p ys → (y ≡ x) ⊎ Contains ys x
          → (count_by p ys ≡ 0 → Contains ys x → p x ≡ false) → p x ≡ false
      by true here sum _ rest = absurd (omega (arith, sum, none))
      by false here sum (inl same) rest = subst (λ (z : X). p z ≡ false) same here
      by false here sum (inr more) rest = rest (omega (arith, sum, none)) more

  pub all_counted : (xs : List X) (x : X) → count_by p xs ≡ length xs → Contains xs x → p x ≡ true
  all_counted [] x all has = absurd (no_element x has)
  all_counted (y ∷ ys) x all has = by (p y) refl (count-cons y ys) (which y x ys has) (all_counted ys x)
    where
      most : count_by p ys ≤ length ys
      most = count_by-le-length p ys

      by : (b : Bool) → p y ≡ b → count_by p (y ∷ ys) ≡ cond b 1 0 + count_by p ys → (y ≡ x) ⊎ Contains ys x
          → (count_by p ys ≡ length ys → Contains ys x → p x ≡ true) → p x ≡ true
      by false here sum _ rest = absurd (omega (arith, sum, all, most))
      by true here sum (inl same) rest = subst (λ (z : X). p z ≡ true) same here
      by true here sum (inr more) rest = rest (omega (arith, sum, all)) more

-- tests that elements pass, and elements that pass them
module _ {X : Type 0} (p : X → Bool) where
  pub any_has : (xs : List X) (x : X) → Contains xs x → p x ≡ true → list_any p xs ≡ true
  any_has [] x has is = absurd (no_element x has)
  any_has (y ∷ ys) x has is = by (p y) refl (which y x ys has) (any_has ys x)
    where
      by : (b : Bool) → p y ≡ b → (y ≡ x) ⊎ Contains ys x → (Contains ys x → p x ≡ true → list_any p ys ≡ true) → (b || list_any p ys) ≡ true
      by true here _ rest = refl
      by false here (inl same) rest = absurd (differ (sym here ∙ ap p same ∙ is))
      by false here (inr more) rest = rest more is

  pub count_has : (xs : List X) (x : X) → Contains xs x → p x ≡ true → 1 ≤ count_by p xs
  count_has xs x has is = by (count_by p xs) refl
    where
      by : (count : ℕ) → count_by p xs ≡ count → 1 ≤ count
      by zero none = absurd (differ (sym (none_counted p xs x none has) ∙ is))
      by (suc count) some = omega arith

  pub counted_from : (xs : List X) → 1 ≤ count_by p xs → (x : X) × Contains xs x × (p x ≡ true)
  counted_from [] some = absurd (omega (arith, some))
  counted_from (y ∷ ys) some = by (p y) refl (count-cons p y ys) (counted_from ys)
    where
      by : (b : Bool) → p y ≡ b → count_by p (y ∷ ys) ≡ cond b 1 0 + count_by p ys → (1 ≤ count_by p ys → (x : X) × Contains ys x × (p x ≡ true))
          → (x : X) × Contains (y ∷ ys) x × (p x ≡ true)
      by true here sum rest = (y, first_element y ys, here)
      by false here sum rest = let more = rest (omega (arith, sum, some)) in (more.0, later_element y more.0 ys more.1, more.2)

pub none_summed : {X : Type 0} (f : X → ℕ) (xs : List X) (x : X) → sum_by f xs ≡ 0 → Contains xs x → f x ≡ 0
none_summed f [] x none has = absurd (no_element x has)
none_summed {X} f (y ∷ ys) x none has = by (sum_by-cons f y ys) (which y x ys has) (none_summed f ys x)
  where
    by : sum_by f (y ∷ ys) ≡ f y + sum_by f ys → (y ≡ x) ⊎ Contains ys x → (sum_by f ys ≡ 0 → Contains ys x → f x ≡ 0) → f x ≡ 0
    by sum (inl same) rest = subst (λ (z : X). f z ≡ 0) same (omega (arith, sum, none))
    by sum (inr more) rest = rest (omega (arith, sum, none)) more

-- a number below another is one of its range
pub in_range : (count k : ℕ) → k < count → Contains (range_with_len 0 count) k
in_range count k low = (k, (let long = length-range_with_len 0 count in omega (arith, long, low)), get_or-range_with_len 0 count k k low ∙ omega arith)

pub from_range : (count k : ℕ) → Contains (range_with_len 0 count) k → k < count
from_range count k has =
    let long = length-range_with_len 0 count in
    let low : has.0 < count = omega (arith, has.1, long) in
    subst (λ (j : ℕ). j < count) (sym (get_or-range_with_len 0 count has.0 k low) ∙ has.2) (omega (arith, low))

pub element_at : {X : Type 0} (xs : List X) (k : ℕ) (d : X) → k < length xs → Contains xs (slice_index_or xs k d)
element_at xs k d low = (k, low, get_or_default xs k (slice_index_or xs k d) d low)

-- of an element and others behind it, each pair is related
pub pairs_cons : {X : Type 0} (R : X → X → Type 0) (x : X) (xs : List X) → ((y : X) → Contains xs y → R x y) → AllPairs R xs → AllPairs R (x ∷ xs)
pairs_cons R x xs first rest zero zero d below low = absurd (omega (arith, below))
pairs_cons R x xs first rest zero (suc j) d below low = first (slice_index_or xs j d) (element_at xs j d (omega (arith, low)))
pairs_cons R x xs first rest (suc i) zero d below low = absurd (omega (arith, below))
pairs_cons R x xs first rest (suc i) (suc j) d below low = rest i j d (omega (arith, below)) (omega (arith, low))

-- where numbers are apart, one of them is one of them once
kept_but : (v : ℕ) (xs : List ℕ) → AllPairs (λ a b. a ≡ b → ⊥) xs → length xs ≤ length (filter (λ x. not (nat_eq v x)) xs) + 1
kept_but v [] apart = omega arith
kept_but v (y ∷ ys) apart = by (nat_eq v y) refl (kept_but v ys (λ i j d below low. apart (suc i) (suc j) d (omega (arith, below)) (omega (arith, low))))
  where
    kept : List ℕ
    kept = filter (λ x. not (nat_eq v x)) ys

    by : (b : Bool) → nat_eq v y ≡ b → length ys ≤ length kept + 1 → suc (length ys) ≤ length (cond (not b) (y ∷ kept) kept) + 1
    by false here rest = omega (arith, rest)
    by true here rest = let all = all_kept (λ x. not (nat_eq v x)) ys (λ x has. others x has) in omega (arith, all)
      where
        others : (x : ℕ) → Contains ys x → not (nat_eq v x) ≡ true
        others x has = by_cases (nat_eq v x) refl
          where
            by_cases : (b : Bool) → nat_eq v x ≡ b → not b ≡ true
            by_cases false is = refl
            by_cases true is =
                absurd (apart 0 (suc has.0) x (omega arith) (let low = has.1 in omega (arith, low)) (sym (eqb-true v y here) ∙ eqb-true v x is ∙ sym has.2))

-- numbers of a range that are apart are no more than it has
pub few_apart : (count first : ℕ) (xs : List ℕ) → AllPairs (λ a b. a ≡ b → ⊥) xs → ((x : ℕ) → Contains xs x → (first ≤ x) × (x < first + count)) → length xs ≤ count
few_apart zero first [] apart within = omega arith
few_apart zero first (x ∷ xs) apart within = let is = within x (first_element x xs) in absurd (omega (arith, is))
few_apart (suc count) first xs apart within =
    let rest = few_apart count first (filter (λ x. not (nat_eq (first + count) x)) xs) (AllPairs-filter (λ a b. a ≡ b → ⊥) (λ x. not (nat_eq (first + count) x)) xs apart)
    (λ x has. smaller x (filter_from (λ y. not (nat_eq (first + count) y)) xs x has)) in
    let most = kept_but (first + count) xs apart in
    omega (arith, rest, most)
  where
    smaller : (x : ℕ) → Contains xs x × (not (nat_eq (first + count) x) ≡ true) → (first ≤ x) × (x < first + count)
    smaller x (has, other) =
        let is = within x has in
        let low = is.0 in
        let high = is.1 in
        (low, by (cases_lt x (first + count)) high)
      where
        by : (x < first + count) ⊎ (first + count ≤ x) → x < first + suc count → x < first + count
        by (inl below) high = below
        by (inr above) high = absurd (differ (sym (ap not (eq-eqb (first + count) x (omega (arith, above, high)))) ∙ other))
