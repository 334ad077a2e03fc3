-- What is read in the cells from a place on, and in the whole list.
use Rattle.std.proofs.Common.{◌≡◌, ℕ, ◌+◌, ◌-◌, Bool, List, [], ◌∷◌, take, drop, ap, sym, ◌∙◌, arith}
use Rattle.std.proofs.lemmas.List.{drop-drop}
use Rattle.cell_bits.specs.Broken.{Unbroken}
use Rattle.cell_bits.specs.Bytes.{data_byte, data_cells}
use Rattle.cell_bits.specs.Word.{number_of, word}

pub data_byte-drop : (place : ℕ) (cells : List Bool) (offset : ℕ) → data_byte (drop place cells) offset ≡ data_byte cells (place + offset)
unfolding data_byte
data_byte-drop place cells offset =
    ap (λ (rest : List Bool). number_of (data_cells (take 16 rest))) (drop-drop offset place cells)

pub data_bytes-drop : (place : ℕ) (cells : List Bool) (offset : ℕ)
    → data_byte cells (place + offset) ∷ data_byte cells (place + offset + 16) ∷ data_byte cells (place + offset + 32) ∷ data_byte cells (place + offset + 48) ∷ []
    ≡ data_byte (drop place cells) offset ∷ data_byte (drop place cells) (offset + 16) ∷ data_byte (drop place cells) (offset + 32) ∷ data_byte (drop place cells) (offset + 48) ∷ []
data_bytes-drop place cells offset =
    let first = data_byte-drop place cells offset in
    let second = further 16 in
    let third = further 32 in
    let fourth = further 48 in
    cc
  where
    further : (more : ℕ) → data_byte cells (place + offset + more) ≡ data_byte (drop place cells) (offset + more)
    further more =
        let at : place + offset + more ≡ place + (offset + more) = omega arith in
        ap (data_byte cells) at ∙ sym (data_byte-drop place cells (offset + more))

pub word-drop : (place : ℕ) (cells : List Bool) (offset count : ℕ) → word (drop place cells) offset count ≡ word cells (place + offset) count
unfolding word
word-drop place cells offset count = ap (λ (rest : List Bool). number_of (take count rest)) (drop-drop offset place cells)

pub unbroken-drop : (place : ℕ) (cells : List Bool) (count : ℕ) → Unbroken cells place (place + count) → Unbroken (drop place cells) 0 count
unbroken-drop place cells count whole k above below zeros =
    whole (place + k) (omega arith) (omega arith) (ap (take 8) (sym (drop-drop k place cells)) ∙ zeros)

pub drop-unbroken : (place : ℕ) (cells : List Bool) (count : ℕ) → Unbroken (drop place cells) 0 count → Unbroken cells place (place + count)
drop-unbroken place cells count whole k above below zeros =
    let e : place + (k - place) ≡ k = omega arith in
    whole (k - place) (omega arith) (omega arith)
    (ap (take 8) (drop-drop (k - place) place cells ∙ ap (λ n. drop n cells) e) ∙ zeros)

-- the same between two places
pub drop-between : (place : ℕ) (cells : List Bool) (from to : ℕ) → Unbroken (drop place cells) from to → Unbroken cells (place + from) (place + to)
drop-between place cells from to whole k above below zeros =
    let e : place + (k - place) ≡ k = omega arith in
    whole (k - place) (omega arith) (omega arith)
    (ap (take 8) (drop-drop (k - place) place cells ∙ ap (λ n. drop n cells) e) ∙ zeros)

pub between-drop : (place : ℕ) (cells : List Bool) (from to : ℕ) → Unbroken cells (place + from) (place + to) → Unbroken (drop place cells) from to
between-drop place cells from to whole k above below zeros =
    whole (place + k) (omega arith) (omega arith) (ap (take 8) (sym (drop-drop k place cells)) ∙ zeros)
