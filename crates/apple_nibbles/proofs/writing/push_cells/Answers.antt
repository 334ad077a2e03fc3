use Rattle.std.proofs.Common.{arith}
use Rattle.cell_bits.specs.lemmas.WordLaws.{length-word_cells}
use Rattle.apple_nibbles.proofs.writing.push_cells.Goals as goal

pub returns : goal.returns
returns c = record {
  ok = c.push_word.ensures.cells;
  room_stays = c.push_word.ensures.room;
  succeeds = λ fits. c.push_word.ensures.succeeds (omega (arith, length-word_cells c.args.count c.args.word, fits));
}
