-- The code's tables against the list of codes.
use Rattle.std.proofs.Common.{◌≡◌, ℕ, ◌+◌, ◌*◌, ◌/◌, ◌%◌, ◌<◌, ◌≤◌, Bool, false, if◌then◌else◌, nat_eq, List, get_or, map, refl, ap, sym, ◌∙◌, arith, lit<}
use Rattle.std.specs.List.{range_with_len}
use Rattle.std.proofs.lemmas.Bool.Decides.{nat_tests}
use Rattle.std.proofs.lemmas.List.FromFn.{get_or-map-range_with_len}
use Rattle.std.proofs.Math.Nat.{mod-eq_of_lt, mod-lt}
use Rattle.cell_bits.specs.Word.{word_cells, number_of}
use Rattle.cell_bits.specs.lemmas.WordLaws.{number_of-word_cells, word_cells-append}
use Rattle.commodore_gcr.specs.Coding.{code_of, gcr}
use Rattle.commodore_gcr.specs.lemmas.RowLaws.{nibble-lt}
use Rattle.commodore_gcr.specs.declared.coding.TheConstants.{CODES, NIBBLES}

-- two functions that agree in a list of their values agree at each number of it
agree_at : (f g : ℕ → ℕ) (count x : ℕ) → x < count → map f (range_with_len 0 count) ≡ map g (range_with_len 0 count) → f x ≡ g x
agree_at f g count x within same =
    sym (get_or-map-range_with_len f 0 count x x 0 within (omega arith))
    ∙ ap (λ (values : List ℕ). get_or values x 0) same
    ∙ get_or-map-range_with_len g 0 count x x 0 within (omega arith)

-- the table of nibbles has each nibble at its code
nibble_table : map (λ n. get_or NIBBLES (code_of n) 0) (range_with_len 0 16) ≡ map (λ n. n) (range_with_len 0 16)
unfolding code_of
nibble_table = refl

pub nibble_of_code : (nibble : ℕ) → nibble < 16 → get_or NIBBLES (code_of nibble) 0 ≡ nibble
nibble_of_code nibble low = agree_at (λ n. get_or NIBBLES (code_of n) 0) (λ n. n) 16 nibble low nibble_table

-- codes have five bits
five_bits : map (λ n. code_of n % 32) (range_with_len 0 16) ≡ map code_of (range_with_len 0 16)
unfolding code_of
five_bits = refl

code-lt : (nibble : ℕ) → nibble < 16 → code_of nibble < 32
code-lt nibble low =
    let same : code_of nibble % 32 ≡ code_of nibble = agree_at (λ n. code_of n % 32) code_of 16 nibble low five_bits in
    omega (arith, same, mod-lt (code_of nibble) (let some : 0 < 32 = lit< tt in some))

-- the ten cells of a byte as a number
abbrev pub gcr_number : ℕ → ℕ
gcr_number byte = code_of (byte / 16 % 16) * 32 + code_of (byte % 16)

pub gcr-cells : (byte : ℕ) → gcr byte ≡ word_cells 10 (gcr_number byte)
unfolding gcr
gcr-cells byte = sym (word_cells-append 5 5 (code_of (byte / 16 % 16)) (code_of (byte % 16)) (code-lt (byte % 16) (nibble-lt byte)))

gcr_number-lt : (byte : ℕ) → gcr_number byte < 1024
gcr_number-lt byte = omega (arith, code-lt (byte / 16 % 16) (nibble-lt (byte / 16)), code-lt (byte % 16) (nibble-lt byte))

number_of-gcr : (byte : ℕ) → number_of (gcr byte) ≡ gcr_number byte
number_of-gcr byte =
    ap number_of (gcr-cells byte) ∙ number_of-word_cells 10 (gcr_number byte) ∙ mod-eq_of_lt (gcr_number-lt byte)

-- two codes, as a number, tell the codes
codes_of_number : (byte high low : ℕ) → low < 32 → gcr_number byte ≡ high * 32 + low
    → (code_of (byte / 16 % 16) ≡ high) × (code_of (byte % 16) ≡ low)
codes_of_number byte high low short same =
    let second = code-lt (byte % 16) (nibble-lt byte) in
    (omega (arith, same, second), omega (arith, same, second))

pub code_in_table : (nibble : ℕ) → get_or CODES nibble 0 ≡ code_of nibble
unfolding code_of
code_in_table nibble = refl

codes_again : map (λ c. if nat_eq (get_or NIBBLES c 0) 256 then c else code_of (get_or NIBBLES c 0)) (range_with_len 0 32) ≡ map (λ c. c) (range_with_len 0 32)
unfolding code_of
codes_again = refl

four_bits : map (λ c. if nat_eq (get_or NIBBLES c 0) 256 then 0 else get_or NIBBLES c 0 % 16) (range_with_len 0 32)
    ≡ map (λ c. if nat_eq (get_or NIBBLES c 0) 256 then 0 else get_or NIBBLES c 0) (range_with_len 0 32)
four_bits = refl

-- each number in the table of nibbles that is not the filler is the nibble of its code
pub code_of_nibble : (code : ℕ) → code < 32 → ¬ (get_or NIBBLES code 0 ≡ 256) → code_of (get_or NIBBLES code 0) ≡ code
code_of_nibble code short filled =
    let known : nat_eq (get_or NIBBLES code 0) 256 ≡ false = grind (arith, nat_tests) in
    ap (λ (no : Bool). if no then code else code_of (get_or NIBBLES code 0)) (sym known)
    ∙ agree_at (λ c. if nat_eq (get_or NIBBLES c 0) 256 then c else code_of (get_or NIBBLES c 0)) (λ c. c) 32 code short codes_again

pub nibble_fits : (code : ℕ) → code < 32 → ¬ (get_or NIBBLES code 0 ≡ 256) → get_or NIBBLES code 0 < 16
nibble_fits code short filled =
    let nibble = get_or NIBBLES code 0 in
    let known : nat_eq nibble 256 ≡ false = grind (arith, nat_tests) in
    let same : nibble % 16 ≡ nibble =
    ap (λ (no : Bool). if no then 0 else nibble % 16) (sym known)
    ∙ agree_at (λ c. if nat_eq (get_or NIBBLES c 0) 256 then 0 else get_or NIBBLES c 0 % 16)
    (λ c. if nat_eq (get_or NIBBLES c 0) 256 then 0 else get_or NIBBLES c 0) 32 code short four_bits
    ∙ ap (λ (no : Bool). if no then 0 else nibble) known in
    omega (arith, same, mod-lt nibble (let some : 0 < 16 = lit< tt in some))

-- and no number in it is above the filler
at_most_no : map (λ c. get_or NIBBLES c 0 % 257) (range_with_len 0 32) ≡ map (λ c. get_or NIBBLES c 0) (range_with_len 0 32)
at_most_no = refl

pub nibble_at_most : (code : ℕ) → code < 32 → get_or NIBBLES code 0 ≤ 256
nibble_at_most code short =
    let nibble = get_or NIBBLES code 0 in
    let same = agree_at (λ c. get_or NIBBLES c 0 % 257) (λ c. get_or NIBBLES c 0) 32 code short at_most_no in
    omega (arith, same, mod-lt nibble (let some : 0 < 257 = lit< tt in some))

-- ten cells that are the code of a byte
pub byte_is : (cells high low : ℕ) → cells < 1024 → high < 16 → low < 16 → code_of high ≡ cells / 32 → code_of low ≡ cells % 32
    → gcr (16 * high + low) ≡ word_cells 10 cells
byte_is cells high low fits first second codes_high codes_low =
    let e : (16 * high + low) / 16 % 16 ≡ high = omega arith in
    let f : (16 * high + low) % 16 ≡ low = omega arith in
    let number : gcr_number (16 * high + low) ≡ cells =
    ap (λ n. code_of n * 32 + code_of ((16 * high + low) % 16)) e
    ∙ ap (λ n. code_of high * 32 + code_of n) f
    ∙ (omega (arith, codes_high, codes_low)) in
    gcr-cells (16 * high + low) ∙ ap (word_cells 10) number

pub codes_are : (cells byte : ℕ) → cells < 1024 → byte < 256 → gcr byte ≡ word_cells 10 cells
    → (code_of (byte / 16 % 16) ≡ cells / 32) × (code_of (byte % 16) ≡ cells % 32)
codes_are cells byte fits short same =
    let number : gcr_number byte ≡ cells =
    sym (number_of-gcr byte) ∙ ap number_of same ∙ number_of-word_cells 10 cells ∙ mod-eq_of_lt fits in
    let split : gcr_number byte ≡ cells / 32 * 32 + cells % 32 = omega (arith, number) in
    codes_of_number byte (cells / 32) (cells % 32) (mod-lt cells (lit< tt)) split

-- what the table has at the two codes of ten cells, together
abbrev pub together : ℕ → ℕ
together cells = 16 * get_or NIBBLES (cells / 32) 0 + get_or NIBBLES (cells % 32) 0

-- where that is below the filler it is the byte of the cells
pub together_is : (cells : ℕ) → cells < 1024 → together cells < 256 → gcr (together cells) ≡ word_cells 10 cells
together_is cells fits small =
    let high = get_or NIBBLES (cells / 32) 0 in
    let low = get_or NIBBLES (cells % 32) 0 in
    let first : cells / 32 < 32 = omega (arith, fits) in
    let second : cells % 32 < 32 = mod-lt cells (lit< tt) in
    let high_filled : ¬ (high ≡ 256) = λ no. omega (arith, no, small) in
    let low_filled : ¬ (low ≡ 256) = λ no. omega (arith, no, small) in
    byte_is cells high low fits (nibble_fits (cells / 32) first high_filled) (nibble_fits (cells % 32) second low_filled)
    (code_of_nibble (cells / 32) first high_filled) (code_of_nibble (cells % 32) second low_filled)

-- and where it is not the cells are those of no byte
pub together_no : (cells byte : ℕ) → cells < 1024 → byte < 256 → 256 ≤ together cells → ¬ (gcr byte ≡ word_cells 10 cells)
together_no cells byte fits short large same =
    let codes = codes_are cells byte fits short same in
    let high : get_or NIBBLES (cells / 32) 0 ≡ byte / 16 % 16 =
    ap (λ (code : ℕ). get_or NIBBLES code 0) (sym codes.0) ∙ nibble_of_code (byte / 16 % 16) (nibble-lt (byte / 16)) in
    let low : get_or NIBBLES (cells % 32) 0 ≡ byte % 16 =
    ap (λ (code : ℕ). get_or NIBBLES code 0) (sym codes.1) ∙ nibble_of_code (byte % 16) (nibble-lt byte) in
    omega (arith, high, low, large, nibble-lt (byte / 16), nibble-lt byte)
