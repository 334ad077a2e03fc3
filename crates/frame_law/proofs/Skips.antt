-- A search for headers that goes from one sync to the next.
use Rattle.std.proofs.Common.{ℕ, ◌<◌, ◌≤◌, Bool, List, length, drop, ap, ◌∙◌, arith, length-drop, inl, inr}
use Rattle.std.proofs.lemmas.List.{length-take}
use Rattle.std.proofs.lemmas.Bool.{cases_lt}
use Rattle.cell_bits.specs.Search.{StandsNowhere}
use Rattle.cell_bits.specs.Word.{Stands}
use Rattle.cell_bits.specs.lemmas.WordLaws.{length-word_cells}
use Rattle.frame_law.specs.Readings.{NoHeader}

-- a word stands within the list
pub stands_within : (cells : List Bool) (value count place : ℕ) → Stands cells value count place → 1 ≤ count → place < length cells
stands_within cells value count place stands some =
    let e = ap length stands ∙ length-word_cells count value in
    let t = length-take count (drop place cells) in
    omega (arith, e, t, length-drop place cells)

-- no header stands where the sync stands nowhere in the rest of the list
pub no_header-none : (header : List Bool → ℕ → Type 0) (cells : List Bool) (value count from start : ℕ)
    → ((rest : List Bool) (s : ℕ) → header rest s → Stands rest value count 0)
    → 1 ≤ count → NoHeader header cells from start → StandsNowhere cells value count start (length cells)
    → (to : ℕ) → NoHeader header cells from to
no_header-none header cells value count from start leads some before behind to place s above below h =
    let stands : Stands cells value count place = leads (drop place cells) s h in
    elim (cases_lt place start) [
      | inl early ↦ before place s above early h
      | inr late ↦ behind place late (stands_within cells value count place stands some) stands
    ]
