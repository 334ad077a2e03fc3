-- The cyclic redundancy check of the IBM 3740 and System 34 formats: the message's bits, high bit
-- first, are a polynomial over the bits. The check value is the remainder by x^16 + x^12 + x^5 + 1
-- of the message times x^16, to whose highest 16 powers the start is added.
use Rattle.std.specs.Prelude.{ℕ, ◌*◌, ◌%◌, ◌^◌, List, [], ◌∷◌, fold, if◌then◌else◌, nat_eq, bit_xor}
use Rattle.std.specs.Int.{bit_at}
use Rattle.std.specs.List.{flat_map}

-- the generator without its highest power: x^12 + x^5 + 1
abbrev pub GENERATOR : ℕ
GENERATOR = 0x1021

-- a byte's bits, high bit first
abbrev pub bits_of : ℕ → List ℕ
bits_of byte =
    bit_at byte 7 ∷ bit_at byte 6 ∷ bit_at byte 5 ∷ bit_at byte 4
    ∷ bit_at byte 3 ∷ bit_at byte 2 ∷ bit_at byte 1 ∷ bit_at byte 0 ∷ []

-- the remainder with one more bit of the message: it moves up by one power, and where the power 16
-- that comes of it and of the bit does not cancel, the generator is taken away
unfoldable pub with_bit : ℕ → ℕ → ℕ
with_bit remainder bit =
    let moved = 2 * remainder % 2 ^ 16 in
    if nat_eq (bit_at remainder 15) bit then moved else bit_xor moved GENERATOR

-- the check value of a message of bytes, from the register's value before it
unfoldable pub crc : ℕ → List ℕ → ℕ
crc start bytes = fold with_bit start (flat_map bits_of bytes)
