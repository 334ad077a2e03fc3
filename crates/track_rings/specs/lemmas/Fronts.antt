-- Lists of cells that agree up to a place: what is read before it is the same in both.
use Rattle.std.specs.Prelude.{◌≡◌, ℕ, ◌+◌, ◌<◌, ◌≤◌, Bool, false, List, ◌++◌, length, take, drop}
use Rattle.std.specs.Prelude.{get_or}
use Rattle.std.proofs.Common.{ap, sym, ◌∙◌, arith}
use Rattle.std.proofs.lemmas.List.{drop-take, ext_get_or, get_or-take, length-take, take-append-le}
use Rattle.std.proofs.lemmas.List.{take-take}
use Rattle.cell_bits.specs.Broken.{Unbroken}
use Rattle.cell_bits.specs.Bytes.{data_byte, data_cells}
use Rattle.cell_bits.specs.Word.{Stands, number_of, word}

-- the first `count` cells are the same
abbrev pub AgreeTo : ℕ → List Bool → List Bool → Type 0
AgreeTo count xs ys = take count xs ≡ take count ys

-- as all cells that begin with the first `count` of a list agree with it
pub agree-front : (count : ℕ) (xs more : List Bool) → count ≤ length xs
    → AgreeTo count xs (take count xs ++ more)
agree-front count xs more within =
    let size : count ≤ length (take count xs) = omega (arith, length-take count xs) in
    sym (take-append-le count (take count xs) more size ∙ take-take count count xs (omega arith))

-- cells that are the same one by one
pub agree-cells : (count : ℕ) (xs ys : List Bool) → count ≤ length xs → count ≤ length ys
    → ((k : ℕ) → k < count → get_or xs k false ≡ get_or ys k false) → AgreeTo count xs ys
agree-cells count xs ys first second each =
    ext_get_or false (take count xs) (take count ys)
    (omega (arith, length-take count xs, length-take count ys))
    (λ k within.
    let low : k < count = omega (arith, within, length-take count xs) in
    get_or-take count xs k false low ∙ each k low ∙ sym (get_or-take count ys k false low))

module _ (total : ℕ) (xs ys : List Bool) (same : AgreeTo total xs ys) where
  pub agree-less : (count : ℕ) → count ≤ total → AgreeTo count xs ys
  agree-less count within =
      sym (take-take count total xs within) ∙ ap (take count) same ∙ take-take count total ys within

  pub agree-length : total ≤ length xs → total ≤ length ys
  agree-length within = omega (arith, ap length same, length-take total xs, length-take total ys)

  pub agree-part : (offset count : ℕ) → offset + count ≤ total
      → take count (drop offset xs) ≡ take count (drop offset ys)
  agree-part offset count within =
      sym (drop-take offset count xs) ∙ ap (drop offset) (agree-less (offset + count) within)
      ∙ drop-take offset count ys

  pub agree-stands : (value count offset : ℕ) → offset + count ≤ total
      → Stands xs value count offset → Stands ys value count offset
  agree-stands value count offset within stands = sym (agree-part offset count within) ∙ stands

  pub agree-word : (offset count : ℕ) → offset + count ≤ total
      → word xs offset count ≡ word ys offset count
  unfolding word
  agree-word offset count within = ap number_of (agree-part offset count within)

  pub agree-data_byte : (offset : ℕ) → offset + 16 ≤ total
      → data_byte xs offset ≡ data_byte ys offset
  unfolding data_byte
  agree-data_byte offset within =
      ap (λ (cells : List Bool). number_of (data_cells cells)) (agree-part offset 16 within)

  pub agree-unbroken : (from to : ℕ) → to ≤ total → Unbroken xs from to → Unbroken ys from to
  agree-unbroken from to within whole place above below zeros =
      whole place above below (agree-part place 8 (omega arith) ∙ zeros)
