use Rattle.std.proofs.Common.{arith}
use Rattle.cell_bits.specs.lemmas.WordLaws.{length-word_cells}
use Rattle.ibm_fm.specs.Layout.{word_of}
use Rattle.ibm_fm.proofs.rows.push_mark.Goals as goal

pub returns : goal.returns
returns c = record {
  ok = rw c.word.ensures at c.push_word.ensures.cells;
  room_stays = c.push_word.ensures.room;
  succeeds = λ fits. c.push_word.ensures.succeeds (omega (arith, length-word_cells 16 c.word.result, length-word_cells 16 (word_of c.args.mark), fits));
}
