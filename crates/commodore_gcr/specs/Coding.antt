-- Group code of the Commodore 1541: each nibble is written as a code of five
-- cells, each byte as ten cells.
use Rattle.std.specs.Prelude.{◌≡◌, ℕ, ◌/◌, ◌%◌, ◌<◌, Bool, List, [], ◌∷◌, ◌++◌, take, drop, get_or}
use Rattle.std.specs.Prelude.{flat_map}
use Rattle.cell_bits.specs.Word.{word_cells}
use Rattle.frame_law.specs.WordRows.{ListStands}

-- the codes of the nibbles 0 to F as numbers of five bits: 01010, 01011, 10010, 10011, 01110,
-- 01111, 10110, 10111, 01001, 11001, 11010, 11011, 01101, 11101, 11110, 10101
abbrev pub CODES : List ℕ
CODES =
    0x0A ∷ 0x0B ∷ 0x12 ∷ 0x13 ∷ 0x0E ∷ 0x0F ∷ 0x16 ∷ 0x17
    ∷ 0x09 ∷ 0x19 ∷ 0x1A ∷ 0x1B ∷ 0x0D ∷ 0x1D ∷ 0x1E ∷ 0x15 ∷ []

unfoldable pub code_of : ℕ → ℕ
code_of nibble = get_or CODES nibble 0

-- the low eight bits of a number, high nibble first
unfoldable pub gcr : ℕ → List Bool
gcr byte = word_cells 5 (code_of (byte / 16 % 16)) ++ word_cells 5 (code_of (byte % 16))

-- bytes in group code
abbrev pub gcr_bytes : List ℕ → List Bool
gcr_bytes bytes = flat_map gcr bytes

-- bytes whose bits are cells as they are
abbrev pub raw_bytes : List ℕ → List Bool
raw_bytes bytes = flat_map (word_cells 8) bytes

-- the code of a byte stands whole at a place: both its codes are valid ones
abbrev pub ByteAt : List Bool → ℕ → ℕ → Type 0
ByteAt cells place byte = (byte < 256) × (take 10 (drop place cells) ≡ gcr byte)

-- the codes of bytes stand one after another from a place on
abbrev pub BytesAt : List Bool → ℕ → List ℕ → Type 0
BytesAt cells place bytes = ListStands 10 ByteAt cells place bytes
