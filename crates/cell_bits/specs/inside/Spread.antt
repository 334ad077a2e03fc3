-- A byte's bits with a place before each, as FM and MFM code words have them.
use Rattle.std.specs.Prelude.{ℕ, false, replicate}
use Rattle.cell_bits.specs.Word.{word_cells, number_of}
use Rattle.cell_bits.specs.Marks.{woven}

-- the number of the byte's bits with a zero before each
unfoldable pub spread_of : ℕ → ℕ
spread_of byte = number_of (woven (replicate 8 false) (word_cells 8 byte))
