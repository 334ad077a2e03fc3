-- The cells of another list, a word after the other.
use Rattle.std.proofs.Common.{◌≡◌, ℕ, ◌+◌, ◌-◌, ◌<◌, ◌≤◌, List, Bool, ◌++◌, length, take, drop, arith, sym, ap, ◌∙◌, append_assoc, length-append, length-drop, append-nil}
use Rattle.std.proofs.lemmas.List.{length-take-le, drop-drop, drop_all, take-append-drop}
use Rattle.cell_bits.specs.State.{CellsState, room}
use Rattle.cell_bits.specs.Word.{number_of, word, word_cells}
use Rattle.cell_bits.specs.lemmas.WordLaws.{word_cells-number_of}

-- all cells from a place on are still to come behind those that were appended
pub record AreLeft (old new : CellsState) (cells : List Bool) (from place : ℕ) : Type 0 where
  pub within : place ≤ length cells
  pub are : new.cells ++ drop place cells ≡ old.cells ++ drop from cells
  pub keeps : room old ≤ room new

-- the cells of a word
word-is : (cells : List Bool) (place count : ℕ) → place + count ≤ length cells → word_cells count (word cells place count) ≡ take count (drop place cells)
unfolding word
word-is cells place count within =
    let some : List Bool = take count (drop place cells) in
    let long : length some ≡ count = length-take-le count (drop place cells) (omega (arith, length-drop place cells, within)) in
    ap (λ (n : ℕ). word_cells n (number_of some)) (sym long) ∙ word_cells-number_of some

pub next-copied : (old mid new : CellsState) (cells : List Bool) (from place count : ℕ) → AreLeft old mid cells from place
    → place + count ≤ length cells → new.cells ≡ mid.cells ++ word_cells count (word cells place count) → room mid ≤ room new
    → AreLeft old new cells from (place + count)
next-copied old mid new cells from place count left within is kept = record {
  within = within;
  are =
      let some : List Bool = take count (drop place cells) in
      ap (λ (l : List Bool). l ++ drop (place + count) cells) (is ∙ ap (λ (l : List Bool). mid.cells ++ l) (word-is cells place count within))
      ∙ append_assoc mid.cells some (drop (place + count) cells)
      ∙ ap (λ (l : List Bool). mid.cells ++ (some ++ l)) (sym (drop-drop count place cells))
      ∙ ap (λ (l : List Bool). mid.cells ++ l) (take-append-drop count (drop place cells))
      ∙ left.are;
  keeps = omega (arith, left.keeps, kept);
}

pub all-copied : (old new : CellsState) (cells : List Bool) (from place : ℕ) → AreLeft old new cells from place → length cells ≤ place
    → new.cells ≡ old.cells ++ drop from cells
all-copied old new cells from place left past =
    sym (append-nil new.cells) ∙ ap (λ (l : List Bool). new.cells ++ l) (sym (drop_all place cells past)) ∙ left.are

-- where there was room for all, there is for what is left
pub room-left : (old new : CellsState) (cells : List Bool) (from place count : ℕ) → AreLeft old new cells from place
    → place + count ≤ length cells → length (drop from cells) ≤ old.spare → count ≤ new.spare
room-left old new cells from place count left within fits =
    let same : length (new.cells ++ drop place cells) ≡ length (old.cells ++ drop from cells) = ap length left.are in
    omega (arith, same, length-append new.cells (drop place cells), length-append old.cells (drop from cells), length-drop place cells, left.keeps, within, fits)
