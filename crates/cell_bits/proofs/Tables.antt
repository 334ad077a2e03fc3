-- Rules for bytes that are shown by a look at each of the 256 bytes.
use Rattle.std.proofs.Common.{◌≡◌, ℕ, ◌+◌, ◌-◌, ◌*◌, ◌/◌, ◌%◌, ◌<◌, Bool, true, false, ◌==◌, length, refl, sym, ap, ◌∙◌, subst, arith, bit_and, bit_or, ◌^◌, ◌++◌, List, replicate, get_or}
use mir.Val.{bool_byte}
use Rattle.flux_base.specs.lemmas.EachBelow.{each_below, from_each}
use Rattle.std.proofs.lemmas.Nat.{shr_split, or_shifted}
use Rattle.std.proofs.lemmas.Bool.{eqb-true}
use Rattle.cell_bits.specs.Word.{word_cells, number_of}
use Rattle.cell_bits.specs.lemmas.WordLaws.{word_cells-number_of, number_of-word_cells, number_of-lt, word_cells-append}
use Rattle.cell_bits.specs.Bytes.{fm, mfm, fm_cells, mfm_cells, data_cells}
use Rattle.cell_bits.specs.Marks.{woven}
use Rattle.cell_bits.specs.inside.Spread.{spread_of}
use Rattle.cell_bits.specs.declared.cells.reads.TheConstants.{NIBBLES}

-- the code's way to put a zero before each bit of a byte
abbrev nibbles : ℕ → ℕ
nibbles byte = bit_and (bit_or byte (byte * 16 % 4294967296)) 3855

abbrev pairs : ℕ → ℕ
pairs byte = bit_and (bit_or (nibbles byte) (nibbles byte * 4 % 4294967296)) 13107

abbrev pub spread_bits : ℕ → ℕ
spread_bits byte = bit_and (bit_or (pairs byte) (pairs byte * 2 % 4294967296)) 21845

spread_table : each_below (λ byte. spread_bits byte == spread_of byte) 256 ≡ true
unfolding each_below spread_of number_of woven word_cells
spread_table = refl

pub spread-is : (byte : ℕ) → byte < 256 → spread_bits byte ≡ spread_of byte
spread-is byte within = eqb-true _ _ (from_each (λ b. spread_bits b == spread_of b) 256 spread_table byte within)

fm_table : each_below (λ byte. bit_or (spread_of byte) 43690 == number_of (fm byte)) 256 ≡ true
unfolding each_below spread_of number_of woven word_cells fm fm_cells
fm_table = refl

pub length-fm : (byte : ℕ) → length (fm byte) ≡ 16
unfolding fm fm_cells word_cells
length-fm byte = refl

pub length-mfm : (before : Bool) (byte : ℕ) → length (mfm before byte) ≡ 16
unfolding mfm mfm_cells word_cells
length-mfm before byte = refl

-- 16 cells with a given number
from_number : (value : ℕ) (cells : List Bool) → length cells ≡ 16 → value ≡ number_of cells → word_cells 16 value ≡ cells
from_number value cells e same =
    ap (word_cells 16) same ∙ ap (λ n. word_cells n (number_of cells)) (sym e) ∙ word_cells-number_of cells

pub fm-is : (byte : ℕ) → byte < 256 → word_cells 16 (bit_or (spread_of byte) 43690) ≡ fm byte
fm-is byte within =
    from_number _ (fm byte) (length-fm byte)
    (eqb-true _ _ (from_each (λ b. bit_or (spread_of b) 43690 == number_of (fm b)) 256 fm_table byte within))

abbrev pub mfm_bits : ℕ → ℕ → ℕ
mfm_bits before bits = bit_or bits (bit_and (4294967295 - bit_or (bit_or (bits * 2 % 4294967296) (bits / 2)) (before * 32768 % 4294967296)) 43690)

mfm_table : (before : Bool) → each_below (λ byte. mfm_bits (bool_byte before) (spread_of byte) == number_of (mfm before byte)) 256 ≡ true
unfolding each_below spread_of number_of woven word_cells mfm mfm_cells
mfm_table true = refl
mfm_table false = refl

pub mfm-is : (before : Bool) (byte : ℕ) → byte < 256 → word_cells 16 (mfm_bits (bool_byte before) (spread_of byte)) ≡ mfm before byte
mfm-is before byte within =
    from_number _ (mfm before byte) (length-mfm before byte)
    (eqb-true _ _ (from_each (λ b. mfm_bits (bool_byte before) (spread_of b) == number_of (mfm before b)) 256 (mfm_table before) byte within))

pub spread-lt : (byte : ℕ) → spread_of byte < 2 ^ 16
unfolding spread_of woven word_cells
spread-lt byte = number_of-lt (woven (replicate 8 false) (word_cells 8 byte))

-- the table of the second bits of each pair
gathered_table : each_below (λ cells. get_or NIBBLES cells 0 == number_of (data_cells (word_cells 8 cells))) 256 ≡ true
unfolding each_below number_of word_cells data_cells
gathered_table = refl

length-gathered : (cells : ℕ) → length (data_cells (word_cells 8 cells)) ≡ 4
unfolding data_cells word_cells
length-gathered cells = refl

gathered-number : (cells : ℕ) → cells < 256 → get_or NIBBLES cells 0 ≡ number_of (data_cells (word_cells 8 cells))
gathered-number cells within = eqb-true _ _ (from_each (λ c. get_or NIBBLES c 0 == number_of (data_cells (word_cells 8 c))) 256 gathered_table cells within)

pub gathered-is : (cells : ℕ) → cells < 256 → word_cells 4 (get_or NIBBLES cells 0) ≡ data_cells (word_cells 8 cells)
gathered-is cells within =
    ap (word_cells 4) (gathered-number cells within) ∙ ap (λ n. word_cells n (number_of (data_cells (word_cells 8 cells)))) (sym (length-gathered cells))
    ∙ word_cells-number_of (data_cells (word_cells 8 cells))

pub gathered-lt : (cells : ℕ) → cells < 256 → get_or NIBBLES cells 0 < 16
gathered-lt cells within =
    subst (λ n. n < 16) (sym (gathered-number cells within))
    (subst (λ n. number_of (data_cells (word_cells 8 cells)) < 2 ^ n) (length-gathered cells) (number_of-lt (data_cells (word_cells 8 cells))))

-- the bits of two bytes, one after the other
data_cells-append : (high low : ℕ) → data_cells (word_cells 8 high ++ word_cells 8 low) ≡ data_cells (word_cells 8 high) ++ data_cells (word_cells 8 low)
unfolding data_cells word_cells
data_cells-append high low = refl

pub both-gathered : (cells high low : ℕ) → high < 16 → low < 16 → word_cells 4 high ≡ data_cells (word_cells 8 (cells / 256)) → word_cells 4 low ≡ data_cells (word_cells 8 (cells % 256))
    → bit_or (high * 16 % 256) low ≡ number_of (data_cells (word_cells 16 cells))
both-gathered cells high low high_fits low_fits above below =
    let split : word_cells 16 cells ≡ word_cells 8 (cells / 256) ++ word_cells 8 (cells % 256) =
    ap (word_cells 16) (sym (shr_split cells 8)) ∙ word_cells-append 8 8 (cells / 256) (cells % 256) (omega arith) in
    let joined : bit_or (high * 16 % 256) low ≡ high * 2 ^ 4 + low = joint-is_8 in
    let all : data_cells (word_cells 16 cells) ≡ word_cells 8 (high * 2 ^ 4 + low) =
    ap data_cells split ∙ data_cells-append (cells / 256) (cells % 256) ∙ ap (λ x. x ++ data_cells (word_cells 8 (cells % 256))) (sym above)
    ∙ ap (λ x. word_cells 4 high ++ x) (sym below) ∙ sym (word_cells-append 4 4 high low low_fits) in
    joined ∙ sym (ap number_of all ∙ number_of-word_cells 8 (high * 2 ^ 4 + low) ∙ omega arith)
  where
    joint-is_8 : bit_or (high * 16 % 256) low ≡ high * 2 ^ 4 + low
    joint-is_8 = let small : high * 16 % 256 ≡ high * 2 ^ 4 = omega arith in ap (λ x. bit_or x low) small ∙ or_shifted high 4 low low_fits
