-- What a list contains, and whether it rises, by its first element.
use Rattle.std.specs.Prelude.{◌≡◌, ℕ, zero, suc, ◌+◌, ◌<◌, Contains, List, [], ◌∷◌, slice_index}
use Rattle.std.specs.Prelude.{refl}
use Rattle.std.specs.List.Sorted.{IsStrictlyIncreasing}
use Rattle.std.proofs.Common.{subst, arith, inl, inr, ◌⊎◌}

pub contains_first : {X : Type 0} (x : X) (xs : List X) → Contains (x ∷ xs) x
contains_first x xs = (0, omega arith, refl)

pub contains_later : {X : Type 0} (y x : X) (xs : List X) → Contains xs x → Contains (y ∷ xs) x
contains_later y x xs has = (suc has.0, omega (arith, has.1), has.2)

pub contains_cases : {X : Type 0} (y x : X) (xs : List X) → Contains (y ∷ xs) x
    → (y ≡ x) ⊎ Contains xs x
contains_cases y x xs (zero, within, same) = inl same
contains_cases y x xs (suc k, within, same) = inr (k, omega arith, same)

pub contains_none : {X : Type 0} (x : X) → Contains [] x → ⊥
contains_none x has = omega (arith, has.1)

pub rise_behind : (x : ℕ) (xs : List ℕ) → IsStrictlyIncreasing (x ∷ xs) → IsStrictlyIncreasing xs
rise_behind x xs rise k within =
    let e : suc k + 1 ≡ suc (k + 1) = omega arith in
    let step : slice_index xs k < slice_index (x ∷ xs) (suc k + 1) =
    rise (suc k) (omega (arith, within)) in
    subst (λ (n : ℕ). slice_index xs k < slice_index (x ∷ xs) n) e step

pub rise_above : (x : ℕ) (xs : List ℕ) → IsStrictlyIncreasing (x ∷ xs) → (y : ℕ) → Contains xs y
    → x < y
rise_above x [] rise y has = absurd (omega (arith, has.1))
rise_above x (z ∷ zs) rise y has =
    let next : x < z = rise 0 (omega arith) in
    elim (contains_cases z y zs has) [
      | inl same ↦ subst (λ (n : ℕ). x < n) same next
      | inr later ↦
          (let more = rise_above z zs (rise_behind x (z ∷ zs) rise) y later in
          omega (arith, next, more))
    ]
