-- The bytes of Apple's disks: eight cells each, the first of which is a one, and the 64
-- of them that data are made of.
use Rattle.std.specs.Prelude.{ℕ, ◌+◌, Bool, false, ◌&&◌, ◌||◌, cond, nat_le, List, [], ◌∷◌, filter}
use Rattle.std.specs.Prelude.{flat_map, get_or}
use Rattle.std.specs.List.{range_with_len}
use Rattle.cell_bits.specs.Word.{digit, word, word_cells}

-- the cells of a byte
abbrev pub BYTE_CELLS : ℕ
BYTE_CELLS = 8

-- How a byte is taken from the cells: the eight cells at the place, high bit first.
unfoldable pub disk_byte : List Bool → ℕ → ℕ
disk_byte cells place = word cells place BYTE_CELLS

-- the cells of bytes
abbrev pub bytes_cells : List ℕ → List Bool
bytes_cells bytes = flat_map (word_cells BYTE_CELLS) bytes

-- whether two bits side by side are ones
unfoldable pub has_two_ones : List Bool → Bool
has_two_ones [] = false
has_two_ones (bit ∷ []) = false
has_two_ones (bit ∷ next ∷ bits) = (bit && next) || has_two_ones (next ∷ bits)

-- at how many places two bits side by side are zeros
unfoldable pub zero_pairs : List Bool → ℕ
zero_pairs [] = 0
zero_pairs (bit ∷ []) = 0
zero_pairs (bit ∷ next ∷ bits) = cond (bit || next) 0 1 + zero_pairs (next ∷ bits)

-- a nibble: its high bit is a one, two others side by side are ones, and at one place at
-- most two side by side are zeros
unfoldable pub is_nibble : ℕ → Bool
is_nibble byte =
    digit byte 7 && has_two_ones (word_cells 7 byte) && nat_le (zero_pairs (word_cells 8 byte)) 1

-- the nibbles, in rising order
unfoldable pub nibbles : List ℕ
nibbles = filter is_nibble (range_with_len 0 256)

-- the nibble of a value of six bits
unfoldable pub nibble : ℕ → ℕ
nibble value = get_or nibbles value 0
