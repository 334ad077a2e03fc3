-- 4-and-4, the coding of Apple's address fields: a byte as two, each with four of
-- its bits and ones between them.
use Rattle.std.specs.Prelude.{◌≡◌, ℕ, ◌/◌, ◌<◌, Bool, List, [], ◌∷◌, bit_or}
use Rattle.apple_nibbles.specs.Nibbles.{bytes_cells}

-- the bits that each half has, whatever the byte
abbrev pub CLOCK_BITS : ℕ
CLOCK_BITS = 0xAA

-- the half with the bits 7, 5, 3 and 1
abbrev pub first_half : ℕ → ℕ
first_half byte = bit_or (byte / 2) CLOCK_BITS

-- the half with the bits 6, 4, 2 and 0
abbrev pub second_half : ℕ → ℕ
second_half byte = bit_or byte CLOCK_BITS

-- the cells of a byte in 4-and-4
unfoldable pub four_and_four : ℕ → List Bool
four_and_four byte = bytes_cells (first_half byte ∷ second_half byte ∷ [])

-- two disk bytes are the halves of a byte
pub record AreHalves (high low byte : ℕ) : Type 0 where
  pub fits : byte < 256
  pub first : high ≡ first_half byte
  pub second : low ≡ second_half byte
