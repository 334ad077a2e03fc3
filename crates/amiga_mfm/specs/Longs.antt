-- The longs of Amiga disks (Amiga trackdisk): numbers of 32 bits. A long is written as two
-- halves, its odd bits and its even bits, each in the data cells of 32 cells. When it is read,
-- clock cells are not looked at.
use Rattle.std.specs.Prelude.{ℕ, zero, suc, ◌+◌, ◌*◌, ◌/◌, Bool, List, [], ◌∷◌, ◌++◌, bit_and, map}
use Rattle.std.specs.Int.{from_be_bytes, to_be_bytes, w32}
use Rattle.std.specs.List.{flat_map}
use Rattle.std.specs.Simd.Lanes.{zip2}
use Rattle.cell_bits.specs.Bytes.{data_byte}
use Rattle.cell_bits.specs.Word.{word, word_cells}
use Rattle.amiga_mfm.specs.declared.half.Half.{Half}
use Rattle.amiga_mfm.specs.declared.half.Half.TheVariants.{Odd, Even}

-- the cells of a half
abbrev pub HALF_CELLS : ℕ
HALF_CELLS = 32

-- the data cells among them: every second one, the last among these
abbrev pub DATA_CELLS : ℕ
DATA_CELLS = 0x55555555

-- the cells of a half, as a number, without clock cells
abbrev pub without_clocks : ℕ → ℕ
without_clocks raw = bit_and raw DATA_CELLS

-- a half of a long, without clock cells: the odd half has its bits 31, 29, .. 1, the
-- even half its bits 30, 28, .. 0
abbrev pub half_of : Half → ℕ → ℕ
half_of Odd long = without_clocks (long / 2)
half_of Even long = without_clocks long

-- longs as they are written: all their odd halves, and then all their even halves
abbrev pub halves : List ℕ → List ℕ
halves longs = map (half_of Odd) longs ++ map (half_of Even) longs

-- the two bytes in the data cells of a half, 16 cells each
unfoldable pub half_bytes : ℕ → List ℕ
half_bytes half =
    data_byte (word_cells HALF_CELLS half) 0 ∷ data_byte (word_cells HALF_CELLS half) 16 ∷ []

-- so many halves in a row from a place on, as numbers, with their clock cells
unfoldable pub raw_longs : List Bool → ℕ → ℕ → List ℕ
raw_longs cells place zero = []
raw_longs cells place (suc count) =
    word cells place HALF_CELLS ∷ raw_longs cells (place + HALF_CELLS) count

-- the long of its halves
abbrev pub long_of_halves : ℕ → ℕ → ℕ
long_of_halves odd even = 2 * without_clocks odd + without_clocks even

-- the long whose odd half stands at a place, and whose even half so many cells further
abbrev pub long_at : List Bool → ℕ → ℕ → ℕ
long_at cells place further =
    long_of_halves (word cells place HALF_CELLS) (word cells (place + further) HALF_CELLS)

-- so many longs whose odd halves stand in a row from a place on, and whose even halves stand
-- in a row so many cells further
abbrev pub longs_at : List Bool → ℕ → ℕ → ℕ → List ℕ
longs_at cells place further count =
    zip2 long_of_halves (raw_longs cells place count) (raw_longs cells (place + further) count)

-- their bytes, the high byte of each long first
abbrev pub bytes_at : List Bool → ℕ → ℕ → ℕ → List ℕ
bytes_at cells place further count = flat_map (to_be_bytes w32) (longs_at cells place further count)

-- bytes as longs
unfoldable pub longs_of : List ℕ → List ℕ
longs_of [] = []
longs_of (a ∷ []) = []
longs_of (a ∷ b ∷ []) = []
longs_of (a ∷ b ∷ c ∷ []) = []
longs_of (a ∷ b ∷ c ∷ d ∷ bytes) = from_be_bytes w32 (a ∷ b ∷ c ∷ d ∷ []) ∷ longs_of bytes
