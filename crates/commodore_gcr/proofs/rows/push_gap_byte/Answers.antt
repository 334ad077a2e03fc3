use Rattle.std.proofs.Common.{arith}
use Rattle.cell_bits.specs.lemmas.WordLaws.{length-word_cells}
use Rattle.commodore_gcr.proofs.rows.push_gap_byte.Goals as goal

pub returns : goal.returns
returns c = record {
  ok = rw c.into.ensures at c.push_word.ensures.cells;
  room_stays = c.push_word.ensures.room;
  succeeds = λ fits. c.push_word.ensures.succeeds (omega (arith, length-word_cells 8 0x55, fits));
}
