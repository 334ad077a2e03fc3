-- How a list of cells lies in memory: 64 cells a word, high bit first, and the cells after the last
-- whole word in a number of their own; and places at which words stand among them.
use Rattle.std.specs.Prelude.{ℕ, ◌+◌, ◌-◌, ◌*◌, ◌^◌, ◌<◌, ◌≤◌, min, ◌++◌, flat_map, vec_len}
use Rattle.std.specs.Prelude.{vec_capacity}
use Rattle.cell_bits.specs.State.{CellsState}
use Rattle.cell_bits.specs.Word.{word_cells}
use Rattle.cell_bits.specs.declared.cells.Cells.TheInside.{Inside}
use Rattle.cell_bits.specs.inside.Kept.{AreKept}

-- the most whole words of a list, so that its length is below 2 ^ 63
abbrev pub most_words : ℕ
most_words = 2 ^ 57 - 1

abbrev pub packed : Inside → CellsState
packed a = record {
  cells = flat_map (word_cells 64) a.words.items ++ word_cells a.filled a.last;
  spare = 64 * min (vec_capacity a.words) most_words + 63 - (64 * vec_len a.words + a.filled);
}

abbrev pub IsPacked : Inside → Type 0
IsPacked a =
    (a.filled < 64) × (a.last < 2 ^ a.filled) × (vec_len a.words ≤ most_words)
    × AreKept (packed a).cells a.kept
