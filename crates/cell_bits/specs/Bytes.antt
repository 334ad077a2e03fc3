-- Bytes in cells (IBM 3740 for FM, IBM System 34 for MFM): each data bit takes
-- a clock cell and a data cell.
use Rattle.std.specs.Prelude.{ℕ, Bool, true, false, not, ◌||◌, List, [], ◌∷◌, take, drop}
use Rattle.cell_bits.specs.Word.{word_cells, number_of}

-- FM: each clock cell is a one
unfoldable pub fm_cells : List Bool → List Bool
fm_cells [] = []
fm_cells (bit ∷ bits) = true ∷ bit ∷ fm_cells bits

-- MFM, after a given data bit: a clock cell is a one exactly where the data bit before it
-- and the one after it are zeros
unfoldable pub mfm_cells : Bool → List Bool → List Bool
mfm_cells before [] = []
mfm_cells before (bit ∷ bits) = not (before || bit) ∷ bit ∷ mfm_cells bit bits

-- the 16 cells of a byte
unfoldable pub fm : ℕ → List Bool
fm byte = fm_cells (word_cells 8 byte)

unfoldable pub mfm : Bool → ℕ → List Bool
mfm before byte = mfm_cells before (word_cells 8 byte)

-- the cell that a list ends with, which is a zero where there is none
unfoldable pub last_cell : List Bool → Bool
last_cell [] = false
last_cell (cell ∷ []) = cell
last_cell (cell ∷ next ∷ cells) = last_cell (next ∷ cells)

-- the second cell of each pair
unfoldable pub data_cells : List Bool → List Bool
data_cells [] = []
data_cells (clock ∷ []) = []
data_cells (clock ∷ bit ∷ cells) = bit ∷ data_cells cells

-- the byte whose data bits stand in the 16 cells from a place on
unfoldable pub data_byte : List Bool → ℕ → ℕ
data_byte cells place = number_of (data_cells (take 16 (drop place cells)))
