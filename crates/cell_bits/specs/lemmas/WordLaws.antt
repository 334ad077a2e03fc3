-- Laws of words of cells, for proofs over lists of cells.
use Rattle.std.proofs.Common.{◌≡◌, ℕ, zero, suc, ◌+◌, ◌-◌, ◌*◌, ◌/◌, ◌%◌, ◌^◌, ◌<◌, ◌≤◌, Bool, true}
use Rattle.std.proofs.Common.{false, ◌==◌, cond, List, [], ◌∷◌, ◌++◌, length, get_or, refl, sym, ap}
use Rattle.std.proofs.Common.{◌∙◌, arith, zero-add, pow-suc}
use Rattle.std.specs.Int.{bit_at}
use Rattle.std.proofs.lemmas.Nat.{pow_pos, mod-pow-add, shr_high}
use Rattle.std.proofs.lemmas.Nat.Bits.{bit_at-lt, bit_at_cat_low, bit_at_cat_high}
use Rattle.std.proofs.lemmas.Bool.Decides.{nat_tests}
use Rattle.cell_bits.specs.Word.{digit, word_cells, number_of}

-- the digit as a number
pub digit-number : (value place : ℕ) → cond (digit value place) 1 0 ≡ bit_at value place
digit-number value place = let low : bit_at value place < 2 = bit_at-lt value place in
    grind (arith, nat_tests)

pub length-word_cells : (count value : ℕ) → length (word_cells count value) ≡ count
unfolding word_cells
length-word_cells zero value = refl
length-word_cells (suc count) value = ap suc (length-word_cells count value)

pub get_or-word_cells : (count value place : ℕ) → place < count
    → get_or (word_cells count value) place false ≡ digit value (count - 1 - place)
unfolding word_cells
get_or-word_cells zero value place within = absurd (omega arith)
get_or-word_cells (suc count) value zero within = let e : count ≡ suc count - 1 - 0 = omega arith in
    ap (digit value) e
get_or-word_cells (suc count) value (suc place) within =
    let e : count - 1 - place ≡ suc count - 1 - suc place = omega arith in
    get_or-word_cells count value place (omega arith) ∙ ap (digit value) e

-- the low cells of a number do not ask for what stands above
pub word_cells-low : (count above low : ℕ) (high : ℕ) → count ≤ above
    → word_cells count (high * 2 ^ above + low) ≡ word_cells count low
unfolding word_cells
word_cells-low zero above low high within = refl
word_cells-low (suc count) above low high within =
    let same : digit (high * 2 ^ above + low) count ≡ digit low count =
    ap (λ bit. bit == 1) (bit_at_cat_low high above low count (omega arith)) in
    rw (same, word_cells-low count above low high (omega arith))

-- two numbers, one after the other
pub word_cells-append : (m n high low : ℕ) → low < 2 ^ n
    → word_cells (m + n) (high * 2 ^ n + low) ≡ word_cells m high ++ word_cells n low
unfolding word_cells
word_cells-append zero n high low fits = rw zero-add (word_cells-low n n low high (omega arith))
word_cells-append (suc m) n high low fits =
    let e : suc m + n ≡ suc (m + n) = omega arith in
    let at : (m + n) - n ≡ m = omega arith in
    let same : digit (high * 2 ^ n + low) (m + n) ≡ digit high m =
    ap (λ bit. bit == 1)
    (bit_at_cat_high high n low (m + n) fits (omega arith) ∙ ap (bit_at high) at) in
    ap (λ k. word_cells k (high * 2 ^ n + low)) e ∙ rw (same, word_cells-append m n high low fits)

pub number_of-word_cells : (count value : ℕ)
    → number_of (word_cells count value) ≡ value % 2 ^ count
unfolding word_cells number_of
number_of-word_cells zero value = omega arith
number_of-word_cells (suc count) value =
    let e : 1 + count ≡ suc count = omega arith in
    rw (length-word_cells count value, digit-number value count, number_of-word_cells count value)
    (sym (mod-pow-add value 1 count) ∙ ap (λ k. value % 2 ^ k) e)

pub number_of-lt : (cells : List Bool) → number_of cells < 2 ^ length cells
unfolding number_of
number_of-lt [] = pow_pos 0
number_of-lt (true ∷ cells) = omega (arith, number_of-lt cells, pow-suc 2 (length cells))
number_of-lt (false ∷ cells) = omega (arith, number_of-lt cells, pow-suc 2 (length cells))

pub word_cells-number_of : (cells : List Bool) → word_cells (length cells) (number_of cells) ≡ cells
unfolding word_cells number_of
word_cells-number_of [] = refl
word_cells-number_of (cell ∷ cells) =
    let n : ℕ = length cells in
    let bit : ℕ = cond cell 1 0 in
    let high : (bit * 2 ^ n + number_of cells) / 2 ^ n ≡ bit =
    shr_high bit n (number_of cells) (number_of-lt cells) in
    let same : digit (bit * 2 ^ n + number_of cells) n ≡ cell =
    ap (λ x. x % 2 == 1) high ∙ first cell in
    rw (same, word_cells-low n n (number_of cells) bit (omega arith))
    (ap (λ rest. cell ∷ rest) (word_cells-number_of cells))
  where
    first : (c : Bool) → (cond c 1 0 % 2 == 1) ≡ c
    first true = refl
    first false = refl
