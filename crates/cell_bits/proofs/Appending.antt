-- Cells that are appended by the word.
use Rattle.std.proofs.Common.{◌≡◌, ℕ, zero, suc, ◌+◌, ◌-◌, ◌*◌, ◌/◌, ◌%◌, ◌^◌, ◌<◌, ◌≤◌, Bool, List, [], ◌∷◌, ◌++◌, refl, sym, ap, ◌∙◌, subst, arith, append_assoc, bit_or, mul-le-mul_right, true, false, ◌==◌, replicate, length, get_or}
use mir.Val.{bool_byte}
use Rattle.std.specs.List.{flat_map}
use Rattle.std.proofs.lemmas.Nat.{shl_whole, or_shifted, or_lt, shl_below, shr_below, shr_split, pow_pos, pow-add, pow_below}
use Rattle.std.proofs.lemmas.Nat.Bits.{bit_at_above}
use Rattle.std.proofs.lemmas.List.{flat_map_more}
use Rattle.cell_bits.specs.Word.{digit, word_cells}
use Rattle.cell_bits.specs.lemmas.WordLaws.{word_cells-append, word_cells-low}
use Rattle.cell_bits.specs.Run.{run_cells}
use Rattle.cell_bits.specs.Bytes.{last_cell}
use Rattle.cell_bits.proofs.Packing.{all_cells}

-- two numbers side by side in one of 64 bits
joint-is : (a b m n : ℕ) → a < 2 ^ m → b < 2 ^ n → m + n ≤ 64 → bit_or (a * 2 ^ n % 2 ^ 64) b ≡ a * 2 ^ n + b
joint-is a b m n a_fits b_fits within = ap (λ x. bit_or x b) (shl_whole a m n 64 a_fits within) ∙ or_shifted a n b b_fits

pub joint-lt : (a b m n : ℕ) → a < 2 ^ m → b < 2 ^ n → m + n ≤ 64 → bit_or (a * 2 ^ n % 2 ^ 64) b < 2 ^ (m + n)
joint-lt a b m n a_fits b_fits within =
    subst (λ x. bit_or x b < 2 ^ (m + n)) (sym (shl_whole a m n 64 a_fits within))
    (or_lt (m + n) (a * 2 ^ n) b (shl_below a m n a_fits) (low-lt b m n b_fits))
  where
    low-lt : (x j k : ℕ) → x < 2 ^ k → x < 2 ^ (j + k)
    low-lt x j k fits = let grows : 2 ^ (j + k) ≡ 2 ^ j * 2 ^ k = pow-add 2 j k in let some : 0 < 2 ^ j = pow_pos j in
        omega (arith, mul-le-mul_right (2 ^ k) some)

pub joint-cells : (a b m n : ℕ) → a < 2 ^ m → b < 2 ^ n → m + n ≤ 64 → word_cells (m + n) (bit_or (a * 2 ^ n % 2 ^ 64) b) ≡ word_cells m a ++ word_cells n b
joint-cells a b m n a_fits b_fits within =
    ap (word_cells (m + n)) (joint-is a b m n a_fits b_fits within) ∙ word_cells-append m n a b b_fits

-- all the cells find place after the last whole word
pub appended-within : (words : List ℕ) (filled last bits count : ℕ) → last < 2 ^ filled → bits < 2 ^ count → filled + count ≤ 64
    → all_cells words (filled + count) (bit_or (last * 2 ^ count % 2 ^ 64) bits) ≡ all_cells words filled last ++ word_cells count bits
appended-within words filled last bits count fits bits_fit within =
    ap (λ cells. flat_map (word_cells 64) words ++ cells) (joint-cells last bits filled count fits bits_fit within)
    ∙ sym (append_assoc (flat_map (word_cells 64) words) (word_cells filled last) (word_cells count bits))

-- the first cells make a whole word of those after the last one, and the others stand after it
pub appended-over : (words : List ℕ) (filled last bits count free over : ℕ) → filled + free ≡ 64 → count ≡ free + over → last < 2 ^ filled → bits < 2 ^ count
    → all_cells (words ++ bit_or (last * 2 ^ free % 2 ^ 64) (bits / 2 ^ over) ∷ []) over (bits % 2 ^ over) ≡ all_cells words filled last ++ word_cells count bits
appended-over words filled last bits count free over full more fits bits_fit =
    let word : ℕ = bit_or (last * 2 ^ free % 2 ^ 64) (bits / 2 ^ over) in
    let whole : List Bool = flat_map (word_cells 64) words in
    let high_fits : bits / 2 ^ over < 2 ^ free = shr_below bits free over (subst (λ n. bits < 2 ^ n) more bits_fit) in
    let low_fits : bits % 2 ^ over < 2 ^ over = omega (arith, pow_pos over) in
    let first : word_cells 64 word ≡ word_cells filled last ++ word_cells free (bits / 2 ^ over) =
    subst (λ n. word_cells n word ≡ word_cells filled last ++ word_cells free (bits / 2 ^ over)) full
    (joint-cells last (bits / 2 ^ over) filled free fits high_fits (omega arith)) in
    let second : word_cells count bits ≡ word_cells free (bits / 2 ^ over) ++ word_cells over (bits % 2 ^ over) =
    ap (λ n. word_cells n bits) more ∙ ap (word_cells (free + over)) (sym (shr_split bits over))
    ∙ word_cells-append free over (bits / 2 ^ over) (bits % 2 ^ over) low_fits in
    let grown : flat_map (word_cells 64) (words ++ word ∷ []) ≡ whole ++ word_cells 64 word = sym (flat_map_more (word_cells 64) [] words word) in
    ap (λ cells. cells ++ word_cells over (bits % 2 ^ over)) (grown ∙ ap (λ cells. whole ++ cells) first)
    ∙ simp append_assoc (sym (ap (λ cells. whole ++ (word_cells filled last ++ cells)) second))

-- the runs and the single cell, as numbers
zeros-before-one : (count : ℕ) → word_cells (suc count) 1 ≡ replicate count false ++ true ∷ []
unfolding word_cells
zeros-before-one zero = refl
zeros-before-one (suc count) =
    let none : digit 1 (suc count) ≡ false = ap (λ bit. bit == 1) (bit_at_above 1 (suc count) (suc count) (pow_below 0 (suc count) (omega arith)) (omega arith)) in
    rw (none, zeros-before-one count)

pub run-is : (count : ℕ) → 1 ≤ count → word_cells count 1 ≡ run_cells count
run-is zero some = absurd (omega arith)
run-is (suc count) some = let e : count ≡ suc count - 1 = omega arith in zeros-before-one count ∙ ap (λ n. replicate n false ++ true ∷ []) e

pub cell-is : (cell : Bool) → word_cells 1 (bool_byte cell) ≡ cell ∷ []
unfolding word_cells
cell-is true = refl
cell-is false = refl

pub one-fits : (count : ℕ) → 1 ≤ count → 1 < 2 ^ count
one-fits count some = pow_below 0 count some

-- the low bits of a word are a number of their own
pub low-is : (count value : ℕ) → word_cells count (value % 2 ^ count) ≡ word_cells count value
low-is count value = sym (word_cells-low count count (value % 2 ^ count) (value / 2 ^ count) (omega arith)) ∙ ap (word_cells count) (shr_split value count)

-- a list's last cell, by its place
pub last-is : (cells : List Bool) (place : ℕ) → length cells ≡ suc place → last_cell cells ≡ get_or cells place false
unfolding last_cell
last-is [] place e = absurd (omega arith)
last-is (cell ∷ []) place e = let none : place ≡ 0 = omega arith in ap (λ n. get_or (cell ∷ []) n false) (sym none)
last-is (cell ∷ next ∷ cells) zero e = absurd (omega arith)
last-is (cell ∷ next ∷ cells) (suc place) e = last-is (next ∷ cells) place (omega arith)

pub last-none : (cells : List Bool) → length cells ≡ 0 → false ≡ last_cell cells
unfolding last_cell
last-none [] e = refl
last-none (cell ∷ cells) e = absurd (omega arith)
