-- The bits in the data cells of eight cells, shown by a look at each of the 256 bytes, and the bytes of a half of a long.
use Rattle.std.proofs.Common.{◌≡◌, ℕ, ◌+◌, ◌*◌, ◌/◌, ◌^◌, ◌<◌, Bool, true, ◌==◌, List, ◌++◌, length, refl, sym, ap, ◌∙◌, arith, bit_and, bit_or, mod-eq_of_lt}
use Rattle.std.proofs.lemmas.Bool.{eqb-true}
use Rattle.flux_base.specs.lemmas.EachBelow.{each_below, from_each}
use Rattle.cell_bits.specs.Bytes.{data_byte, data_cells}
use Rattle.cell_bits.specs.Word.{number_of, word_cells}
use Rattle.cell_bits.specs.lemmas.WordLaws.{number_of-word_cells, word_cells-append, word_cells-number_of}

-- the code's way to take the second bit of each pair
abbrev pairs : ℕ → ℕ
pairs cells = bit_and (bit_or (bit_and cells 85) (bit_and cells 85 / 2)) 51

abbrev pub nibble : ℕ → ℕ
nibble cells = bit_and (bit_or (pairs cells) (pairs cells / 4)) 15

nibble_table : each_below (λ cells. nibble cells == number_of (data_cells (word_cells 8 cells))) 256 ≡ true
unfolding each_below number_of word_cells data_cells
nibble_table = refl

length-nibble : (cells : ℕ) → length (data_cells (word_cells 8 cells)) ≡ 4
unfolding data_cells word_cells
length-nibble cells = refl

pub nibble-is : (cells : ℕ) → cells < 256 → word_cells 4 (nibble cells) ≡ data_cells (word_cells 8 cells)
nibble-is cells within =
    let same : nibble cells ≡ number_of (data_cells (word_cells 8 cells)) =
    eqb-true _ _ (from_each (λ c. nibble c == number_of (data_cells (word_cells 8 c))) 256 nibble_table cells within) in
    ap (word_cells 4) same ∙ ap (λ (n : ℕ). word_cells n (number_of (data_cells (word_cells 8 cells)))) (sym (length-nibble cells))
    ∙ word_cells-number_of (data_cells (word_cells 8 cells))

-- two nibbles are the byte in the data cells of two bytes
data_cells-both : (a b : ℕ) → data_cells (word_cells 8 a ++ word_cells 8 b) ≡ data_cells (word_cells 8 a) ++ data_cells (word_cells 8 b)
unfolding data_cells word_cells
data_cells-both a b = refl

two_nibbles : (a b high low : ℕ) → high < 16 → low < 16 → word_cells 4 high ≡ data_cells (word_cells 8 a) → word_cells 4 low ≡ data_cells (word_cells 8 b)
    → 16 * high + low ≡ number_of (data_cells (word_cells 8 a ++ word_cells 8 b))
two_nibbles a b high low high_fits low_fits first second =
    let order : 16 * high + low ≡ high * 2 ^ 4 + low = omega arith in
    let small : high * 2 ^ 4 + low < 256 = omega arith in
    let cells : word_cells 8 (high * 2 ^ 4 + low) ≡ data_cells (word_cells 8 a ++ word_cells 8 b) =
    word_cells-append 4 4 high low low_fits
    ∙ ap (λ (cells : List Bool). cells ++ word_cells 4 low) first
    ∙ ap (λ (cells : List Bool). data_cells (word_cells 8 a) ++ cells) second
    ∙ sym (data_cells-both a b) in
    order ∙ sym (mod-eq_of_lt small) ∙ sym (number_of-word_cells 8 (high * 2 ^ 4 + low)) ∙ ap number_of cells

-- a number of four bytes as cells
four_bytes : (a b c d : ℕ) → b < 256 → c < 256 → d < 256
    → word_cells 32 ((a * 2 ^ 8 + b) * 2 ^ 16 + (c * 2 ^ 8 + d)) ≡ (word_cells 8 a ++ word_cells 8 b) ++ (word_cells 8 c ++ word_cells 8 d)
four_bytes a b c d second third fourth =
    let low : c * 2 ^ 8 + d < 2 ^ 16 = omega arith in
    word_cells-append 16 16 (a * 2 ^ 8 + b) (c * 2 ^ 8 + d) low
    ∙ ap (λ (cells : List Bool). cells ++ word_cells 16 (c * 2 ^ 8 + d)) (word_cells-append 8 8 a b second)
    ∙ ap (λ (cells : List Bool). (word_cells 8 a ++ word_cells 8 b) ++ cells) (word_cells-append 8 8 c d fourth)

take_first : (a b c d : ℕ) → data_byte ((word_cells 8 a ++ word_cells 8 b) ++ (word_cells 8 c ++ word_cells 8 d)) 0 ≡ number_of (data_cells (word_cells 8 a ++ word_cells 8 b))
unfolding data_byte data_cells word_cells
take_first a b c d = refl

take_second : (a b c d : ℕ) → data_byte ((word_cells 8 a ++ word_cells 8 b) ++ (word_cells 8 c ++ word_cells 8 d)) 16 ≡ number_of (data_cells (word_cells 8 c ++ word_cells 8 d))
unfolding data_byte data_cells word_cells
take_second a b c d = refl

module _ (half a b c d : ℕ) (second : b < 256) (third : c < 256) (fourth : d < 256) (is : half ≡ (a * 2 ^ 8 + b) * 2 ^ 16 + (c * 2 ^ 8 + d)) where
  pub first-byte : (high low : ℕ) → high < 16 → low < 16 → word_cells 4 high ≡ data_cells (word_cells 8 a) → word_cells 4 low ≡ data_cells (word_cells 8 b)
      → 16 * high + low ≡ data_byte (word_cells 32 half) 0
  first-byte high low high_fits low_fits first then =
      two_nibbles a b high low high_fits low_fits first then
      ∙ sym (ap (λ (n : ℕ). data_byte (word_cells 32 n) 0) is ∙ ap (λ (cells : List Bool). data_byte cells 0) (four_bytes a b c d second third fourth)
      ∙ take_first a b c d)

  pub second-byte : (high low : ℕ) → high < 16 → low < 16 → word_cells 4 high ≡ data_cells (word_cells 8 c) → word_cells 4 low ≡ data_cells (word_cells 8 d)
      → 16 * high + low ≡ data_byte (word_cells 32 half) 16
  second-byte high low high_fits low_fits first then =
      two_nibbles c d high low high_fits low_fits first then
      ∙ sym (ap (λ (n : ℕ). data_byte (word_cells 32 n) 16) is ∙ ap (λ (cells : List Bool). data_byte cells 16) (four_bytes a b c d second third fourth)
      ∙ take_second a b c d)
