use Rattle.std.proofs.Common.{arith}
use Rattle.commodore_gcr.specs.lemmas.CodingLaws.{length-gcr}
use Rattle.commodore_gcr.proofs.rows.push_byte.Goals as goal

pub returns : goal.returns
returns c = record {
  ok = rw c.coded.ensures at c.push_word.ensures.cells;
  room_stays = c.push_word.ensures.room;
  succeeds = λ fits. c.push_word.ensures.succeeds (omega (arith, length-gcr c.args.byte, fits));
}
