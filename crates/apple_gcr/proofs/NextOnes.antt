-- By the controller's rule a byte begins at the next one.
use Rattle.std.proofs.Common.{◌≡◌, ℕ, zero, suc, ◌+◌, ◌-◌, ◌<◌, ◌≤◌, ◌⊎◌, Bool, true, false, List, [], ◌∷◌, length, take, drop, get_or, replicate, ap, sym, ◌∙◌, arith, inl, inr, refl, length-drop}
use Rattle.std.proofs.lemmas.Bool.{cases_lt}
use Rattle.std.proofs.lemmas.List.{ext_get_or, get_or-drop, get_or-take, length-take}
use Rattle.apple_gcr.specs.DiskBytes.{byte_place, zeros_first}
use Rattle.apple_gcr.specs.Rules.{ControllerWaitsForOnes}
use Rattle.apple_gcr.specs.lemmas.ByteLaws.{place-most}

-- the cells before the first one are zeros
are_zeros : (most : ℕ) (cells : List Bool) (k : ℕ) → k < zeros_first (take most cells) → get_or cells k false ≡ false
unfolding zeros_first
are_zeros zero cells k low = absurd (omega arith)
are_zeros (suc most) [] k low = refl
are_zeros (suc most) (true ∷ cells) k low = absurd (omega arith)
are_zeros (suc most) (false ∷ cells) zero low = refl
are_zeros (suc most) (false ∷ cells) (suc k) low = are_zeros most cells k (omega arith)

-- and it is a one, where it is not past them all
is_one : (most : ℕ) (cells : List Bool) → zeros_first (take most cells) < most → most ≤ length cells
    → get_or cells (zeros_first (take most cells)) false ≡ true
unfolding zeros_first
is_one zero cells low within = absurd (omega arith)
is_one (suc most) [] low within = absurd (omega arith)
is_one (suc most) (true ∷ cells) low within = refl
is_one (suc most) (false ∷ cells) low within = is_one most cells (omega arith) (omega arith)

-- eight zeros are no unbroken cells
eight : (cells : List Bool) → 8 ≤ length cells → ((k : ℕ) → k < 8 → get_or cells k false ≡ false) → take 8 cells ≡ replicate 8 false
eight cells within zeros =
    ext_get_or false (take 8 cells) (replicate 8 false) (omega (arith, length-take 8 cells))
    (λ k low.
    let below : k < 8 = omega (arith, low, length-take 8 cells) in
    get_or-take 8 cells k false below ∙ zeros k below ∙ sym (in_zeros 8 k))
  where
    in_zeros : (count k : ℕ) → get_or (replicate count false) k false ≡ false
    in_zeros zero k = refl
    in_zeros (suc count) zero = refl
    in_zeros (suc count) (suc k) = in_zeros count k

one_or_zero : (cell : Bool) → (cell ≡ true) ⊎ (cell ≡ false)
one_or_zero true = inl refl
one_or_zero false = inr refl

-- so the cell after seven zeros is a one
next_is_one : (cells : List Bool) → 8 ≤ length cells → ¬ (take 8 cells ≡ replicate 8 false)
    → get_or cells (zeros_first (take 7 cells)) false ≡ true
next_is_one cells within whole =
    elim (cases_lt (zeros_first (take 7 cells)) 7) [
      | inl low ↦ is_one 7 cells low (omega (arith, within))
      | inr all ↦ elim (one_or_zero (get_or cells (zeros_first (take 7 cells)) false)) [
        | inl one ↦ one
        | inr none ↦ absurd (whole (eight cells within (λ k below. elim (cases_lt k (zeros_first (take 7 cells))) [
          | inl early ↦ are_zeros 7 cells k early
          | inr late ↦
              let e : zeros_first (take 7 cells) ≡ k = omega (arith, all, below, late) in
              ap (λ (n : ℕ). get_or cells n false) (sym e) ∙ none
        ])))
      ]
    ]

pub waits_for_ones : ControllerWaitsForOnes
unfolding byte_place
waits_for_ones cells from end room within unbroken =
    let rest = drop from cells in
    let zeros = zeros_first (take 7 rest) in
    let most = place-most 7 cells from in
    let one = next_is_one rest (omega (arith, length-drop from cells, room, within)) (unbroken from (omega arith) room) in (
      omega arith,
      omega (arith, most, room),
      sym (get_or-drop from cells zeros false) ∙ one,
      λ place above below.
          let k = place - from in
          let e : from + k ≡ place = omega (arith, above) in
          ap (λ (n : ℕ). get_or cells n false) (sym e) ∙ sym (get_or-drop from cells k false) ∙ are_zeros 7 rest k (omega (arith, above, below)),
    )
