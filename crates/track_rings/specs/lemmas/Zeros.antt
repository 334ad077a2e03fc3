-- Cells in which zeros never come so many in a row: they are unbroken, and
-- neighbouring ones of their ring are near.
use Rattle.std.specs.Prelude.{◌≡◌, ℕ, zero, suc, ◌+◌, ◌-◌, ◌%◌, ◌<◌, ◌≤◌, Bool, false, List, []}
use Rattle.std.specs.Prelude.{◌∷◌, ◌++◌, length, take, drop, get_or, replicate, refl}
use Rattle.std.proofs.Common.{ap, sym, ◌∙◌, arith, inl, inr, length-drop}
use Rattle.std.proofs.lemmas.List.{drop-append-le, get_or-drop, get_or-replicate, get_or-take}
use Rattle.std.proofs.lemmas.List.{length-take, take-append-le}
use Rattle.std.proofs.lemmas.Bool.{cases_lt}
use Rattle.std.proofs.Math.ListN.{get_or-append}
use Rattle.std.proofs.Math.Nat.{add-mod_left, mod-add-mod, mod-eq_of_lt, mod-lt}
use Rattle.std.proofs.Math.Seq.{get_or-append_right}
use Rattle.cell_bits.specs.Broken.{Unbroken}
use Rattle.track_rings.specs.Rings.{cell_of}

-- so many zeros in a row come at no place
abbrev pub NoZeroRun : ℕ → List Bool → Type 0
NoZeroRun count cells =
    (place : ℕ) (rest : List Bool) → ¬ (drop place cells ≡ replicate count false ++ rest)

zeros-front : (count : ℕ) (cells : List Bool) → count ≤ length cells
    → ((k : ℕ) → k < count → get_or cells k false ≡ false)
    → (rest : List Bool) × (cells ≡ replicate count false ++ rest)
zeros-front zero cells enough each = (cells, refl)
zeros-front (suc count) [] enough each = absurd (omega arith)
zeros-front (suc count) (cell ∷ cells) enough each =
    let more = zeros-front count cells (omega arith) (λ k within. each (suc k) (omega arith)) in (
      more.0,
      ap (λ (first : Bool). first ∷ cells) (each 0 (omega arith))
          ∙ ap (λ (rest : List Bool). false ∷ rest) more.1,
    )

-- also where the cells are looked at one by one
zeros-nowhere : (count : ℕ) (cells : List Bool) (place : ℕ) → NoZeroRun count cells
    → place + count ≤ length cells
    → ¬ ((k : ℕ) → k < count → get_or cells (place + k) false ≡ false)
zeros-nowhere count cells place none within each =
    let size : count ≤ length (drop place cells) = omega (arith, length-drop place cells) in
    let front = zeros-front count (drop place cells) size
    (λ k low. get_or-drop place cells k false ∙ each k low) in
    none place front.0 front.1

-- such cells are unbroken
pub zeros-unbroken : (count : ℕ) (cells : List Bool) (from to : ℕ) → count ≤ 8
    → NoZeroRun count cells → Unbroken cells from to
zeros-unbroken count cells from to few none place above below zeros =
    let size = ap length zeros in
    let all : place + 8 ≤ length cells =
    omega (arith, size, length-take 8 (drop place cells), length-drop place cells) in
    zeros-nowhere count cells place none (omega arith)
    (λ k within.
    let low : k < 8 = omega arith in
    sym (get_or-drop place cells k false) ∙ sym (get_or-take 8 (drop place cells) k false low)
    ∙ ap (λ (eight : List Bool). get_or eight k false) zeros ∙ get_or-replicate 8 k false false low)

-- unbroken cells are so whatever comes after them
pub unbroken-front : (xs ys : List Bool) (count : ℕ) → Unbroken xs 0 count → count ≤ length xs
    → Unbroken (xs ++ ys) 0 count
unbroken-front xs ys count whole size place above below zeros =
    let short : place ≤ length xs = omega (arith, size, below) in
    let fits : 8 ≤ length (drop place xs) = omega (arith, length-drop place xs, size, below) in
    whole place above below
    (sym
    (ap (take 8) (drop-append-le place xs ys short) ∙ take-append-le 8 (drop place xs) ys fits)
    ∙ zeros)

-- a cell of the repeated ring, in two rings one after the other
cell-twice : (ring : List Bool) (place : ℕ) → place < length ring + length ring
    → get_or (ring ++ ring) place false ≡ cell_of ring place
cell-twice ring place within =
    elim (cases_lt place (length ring)) [
      | inl first ↦
          get_or-append ring ring false place first
          ∙ ap (λ (n : ℕ). get_or ring n false) (sym (mod-eq_of_lt first))
      | inr second ↦
          let rest : place - length ring < length ring = omega arith in
          let e : length ring + (place - length ring) ≡ place = omega arith in
          get_or-append_right ring ring place false second
          ∙ ap (λ (n : ℕ). get_or ring n false)
          (sym (mod-eq_of_lt rest) ∙ sym (add-mod_left (length ring) (place - length ring))
          ∙ ap (λ (n : ℕ). n % length ring) e)
    ]

-- also counted from a place of the first
pub cell-near : (ring : List Bool) (place offset : ℕ) → offset ≤ length ring → 0 < length ring
    → get_or (ring ++ ring) (place % length ring + offset) false ≡ cell_of ring (place + offset)
cell-near ring place offset near some =
    let low : place % length ring < length ring = mod-lt place some in
    cell-twice ring (place % length ring + offset) (omega arith)
    ∙ ap (λ (n : ℕ). get_or ring n false) (mod-add-mod place (length ring) offset)
