-- The nibbles by the code's tables: each of 64, and each of one value.
use Rattle.std.specs.Prelude.{◌≡◌, ℕ, ◌%◌, ◌<◌, Bool, false, if◌then◌else◌, List, get_or}
use Rattle.std.specs.Prelude.{map, nat_eq, refl}
use Rattle.std.specs.Int.Bits.{bit_xor, xor_assoc, xor_self, xor_zero_r}
use Rattle.std.specs.List.{range_with_len}
use Rattle.std.proofs.Common.{ap, sym, subst, ◌∙◌, arith, lit<}
use Rattle.std.proofs.Math.Nat.{mod-lt}
use Rattle.std.proofs.lemmas.Bool.Decides.{nat_tests}
use Rattle.std.proofs.lemmas.List.FromFn.{get_or-map-range_with_len}
use Rattle.apple_nibbles.specs.declared.nibbles.TheConstants.{NIBBLES, VALUES_BY_BYTE}
use Rattle.apple_nibbles.specs.Nibbles.{has_two_ones, is_nibble, nibble, nibbles, zero_pairs}
use Rattle.cell_bits.specs.Word.{word_cells}

-- what two lists of a function's values have in common, each number has
pub agree-below : {X : Type 0} (f g : ℕ → X) (count k : ℕ) → k < count
    → map f (range_with_len 0 count) ≡ map g (range_with_len 0 count) → f k ≡ g k
agree-below f g count k within same =
    sym (get_or-map-range_with_len f 0 count k k (f k) within (omega arith))
    ∙ ap (λ (values : List _). get_or values k (f k)) same
    ∙ get_or-map-range_with_len g 0 count k k (f k) within (omega arith)

-- the code's table has the nibbles by their rule
pub table_is : NIBBLES ≡ nibbles
unfolding nibbles is_nibble has_two_ones zero_pairs word_cells
table_is = refl

pub nibble-is : (value : ℕ) → get_or NIBBLES value 0 ≡ nibble value
unfolding nibble
nibble-is value = ap (λ (table : List ℕ). get_or table value 0) table_is

-- the table of values finds the value of each nibble
value_table : map (λ value. get_or VALUES_BY_BYTE (get_or NIBBLES value 0) 0)
    (range_with_len 0 64)
    ≡ map (λ value. value) (range_with_len 0 64)
value_table = refl

pub value-of_nibble : (value : ℕ) → value < 64 → get_or VALUES_BY_BYTE (nibble value) 0 ≡ value
value-of_nibble value within =
    ap (λ (byte : ℕ). get_or VALUES_BY_BYTE byte 0) (sym (nibble-is value))
    ∙ agree-below (λ v. get_or VALUES_BY_BYTE (get_or NIBBLES v 0) 0) (λ v. v) 64 value within
    value_table

pub one_value : (v w : ℕ) → v < 64 → w < 64 → nibble v ≡ nibble w → v ≡ w
one_value v w first second same =
    sym (value-of_nibble v first) ∙ ap (λ (byte : ℕ). get_or VALUES_BY_BYTE byte 0) same
    ∙ value-of_nibble w second

-- a value that it has at a byte is that of the byte's nibble
bytes_again : map
    (λ b. if nat_eq (get_or VALUES_BY_BYTE b 0) 255 then b
    else get_or NIBBLES (get_or VALUES_BY_BYTE b 0) 0)
    (range_with_len 0 256)
    ≡ map (λ b. b) (range_with_len 0 256)
bytes_again = refl

pub nibble-of_value : (byte : ℕ) → byte < 256 → ¬ (get_or VALUES_BY_BYTE byte 0 ≡ 255)
    → nibble (get_or VALUES_BY_BYTE byte 0) ≡ byte
nibble-of_value byte within filled =
    let value = get_or VALUES_BY_BYTE byte 0 in
    let known : nat_eq value 255 ≡ false = grind (arith, nat_tests) in
    sym (nibble-is value)
    ∙ ap (λ (no : Bool). if no then byte else get_or NIBBLES value 0) (sym known)
    ∙ agree-below
    (λ b. if nat_eq (get_or VALUES_BY_BYTE b 0) 255 then b
    else get_or NIBBLES (get_or VALUES_BY_BYTE b 0) 0)
    (λ b. b) 256 byte within bytes_again

-- and has six bits
six_bits : map
    (λ b. if nat_eq (get_or VALUES_BY_BYTE b 0) 255 then 0 else get_or VALUES_BY_BYTE b 0 % 64)
    (range_with_len 0 256)
    ≡ map (λ b. if nat_eq (get_or VALUES_BY_BYTE b 0) 255 then 0 else get_or VALUES_BY_BYTE b 0)
    (range_with_len 0 256)
six_bits = refl

pub value-fits : (byte : ℕ) → byte < 256 → ¬ (get_or VALUES_BY_BYTE byte 0 ≡ 255)
    → get_or VALUES_BY_BYTE byte 0 < 64
value-fits byte within filled =
    let value = get_or VALUES_BY_BYTE byte 0 in
    let known : nat_eq value 255 ≡ false = grind (arith, nat_tests) in
    let same : value % 64 ≡ value =
    ap (λ (no : Bool). if no then 0 else value % 64) (sym known)
    ∙ agree-below
    (λ b. if nat_eq (get_or VALUES_BY_BYTE b 0) 255 then 0 else get_or VALUES_BY_BYTE b 0 % 64)
    (λ b. if nat_eq (get_or VALUES_BY_BYTE b 0) 255 then 0 else get_or VALUES_BY_BYTE b 0)
    256 byte within six_bits
    ∙ ap (λ (no : Bool). if no then 0 else value) known in
    subst (λ (n : ℕ). n < 64) same (mod-lt value (lit< tt))

-- what was put before a number by exclusive or is taken off by it again
pub xor-undo : (a b : ℕ) → bit_xor (bit_xor a b) b ≡ a
xor-undo a b = xor_assoc a b b ∙ ap (bit_xor a) (xor_self b) ∙ xor_zero_r a
