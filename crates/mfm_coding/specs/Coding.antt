-- Bytes and marks in a row as MFM cells (IBM System 34): each takes 16 cells, which ask for
-- the last data bit before them.
use Rattle.std.specs.Prelude.{ℕ, Bool, true, false, List, [], ◌∷◌, ◌++◌, map}
use Rattle.cell_bits.specs.Bytes.{mfm}
use Rattle.cell_bits.specs.Word.{digit, word_cells}
use Rattle.mfm_coding.specs.declared.symbol.Symbol.{Symbol}
use Rattle.mfm_coding.specs.declared.symbol.Symbol.TheVariants.{Data, SyncMark, IndexMark}

-- the marks by their cells: the byte A1 with a missing clock, and the byte C2 with a missing clock
abbrev pub SYNC_MARK : ℕ
SYNC_MARK = 0x4489

abbrev pub INDEX_MARK : ℕ
INDEX_MARK = 0x5224

-- the last data bit
abbrev pub low_bit : Symbol → Bool
low_bit (Data byte) = digit byte 0
low_bit SyncMark = true
low_bit IndexMark = false

-- the cells of one of them, after a data bit
unfoldable pub symbol_cells : Bool → Symbol → List Bool
symbol_cells before (Data byte) = mfm before byte
symbol_cells before SyncMark = word_cells 16 SYNC_MARK
symbol_cells before IndexMark = word_cells 16 INDEX_MARK

-- the cells of all
unfoldable pub coded : Bool → List Symbol → List Bool
coded before [] = []
coded before (symbol ∷ symbols) = symbol_cells before symbol ++ coded (low_bit symbol) symbols

-- bytes without marks
abbrev pub bytes_as_data : List ℕ → List Symbol
bytes_as_data bytes = map Data bytes
