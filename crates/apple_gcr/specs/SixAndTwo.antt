-- 6-and-2, the coding of Apple's data fields (DOS 3.3): 256 bytes are carried by 342 values of six
-- bits, and these stand as 343 nibbles, of which each has a value exclusive-or the one before.
use Rattle.std.specs.Prelude.{◌≡◌, ℕ, ◌+◌, ◌-◌, ◌*◌, ◌/◌, ◌%◌, ◌<◌, List, ◌∷◌, length, get_or, map}
use Rattle.std.specs.Prelude.{bit_xor, if◌then◌else◌, nat_lt}
use Rattle.std.specs.List.{range_with_len}
use Rattle.apple_nibbles.specs.Nibbles.{nibble}

-- the values of a sector, and its nibbles, one more for the check value
abbrev pub VALUES : ℕ
VALUES = 342

abbrev pub NIBBLES : ℕ
NIBBLES = 343

-- the low two bits of a byte, swapped
abbrev pub swapped : ℕ → ℕ
swapped byte = 2 * (byte % 2) + byte / 2 % 2

-- The values carry the bytes. Value 86 + k has the six high bits of byte k. Value k has the low two
-- bits, swapped, of byte k in its bits 1 and 0, of byte 86 + k in its bits 3 and 2, and of byte 172
-- + k, where there is one, in its bits 5 and 4.
pub record Carries (values bytes : List ℕ) : Type 0 where
  pub size : length bytes ≡ 256
  pub high : (k : ℕ) → k < 256 → get_or bytes k 0 / 4 ≡ get_or values (86 + k) 0
  pub first : (k : ℕ) → k < 86 → swapped (get_or bytes k 0) ≡ get_or values k 0 % 4
  pub second : (k : ℕ) → k < 86 → swapped (get_or bytes (86 + k) 0) ≡ get_or values k 0 / 4 % 4
  pub third : (k : ℕ) → k < 84 → swapped (get_or bytes (172 + k) 0) ≡ get_or values k 0 / 16 % 4

-- the pair of bits of these values that has the low two bits of byte k
abbrev pub low_pair : List ℕ → ℕ → ℕ
low_pair values k =
    if nat_lt k 86
    then get_or values k 0 % 4
    else if nat_lt k 172 then get_or values (k - 86) 0 / 4 % 4
    else get_or values (k - 172) 0 / 16 % 4

-- the values that are written for bytes, where a pair of bits that belongs to no byte is 0
abbrev pub value_at : List ℕ → ℕ → ℕ
value_at bytes k =
    if nat_lt k 86
    then swapped (get_or bytes k 0) + 4 * swapped (get_or bytes (86 + k) 0)
    + 16 * swapped (get_or bytes (172 + k) 0)
    else get_or bytes (k - 86) 0 / 4

unfoldable pub values_of : List ℕ → List ℕ
values_of bytes = map (value_at bytes) (range_with_len 0 VALUES)

-- a value exclusive-or the one before it, where a zero stands before the
-- first value and after the last
abbrev pub code_at : List ℕ → ℕ → ℕ
code_at values k = bit_xor (get_or values k 0) (get_or (0 ∷ values) k 0)

-- The disk bytes that are read are the nibbles of the values, the check value last.
pub record AreCoded (read : ℕ → ℕ) (values : List ℕ) : Type 0 where
  pub count : length values ≡ VALUES
  pub fit : (k : ℕ) → get_or values k 0 < 64
  pub stand : (k : ℕ) → k < NIBBLES → read k ≡ nibble (code_at values k)

-- the nibbles of a sector's bytes
unfoldable pub data_nibbles : List ℕ → List ℕ
data_nibbles bytes = map (λ k. nibble (code_at (values_of bytes) k)) (range_with_len 0 NIBBLES)
