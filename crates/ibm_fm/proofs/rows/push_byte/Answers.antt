use Rattle.std.proofs.Common.{arith}
use Rattle.ibm_fm.specs.lemmas.RowLaws.{length-fm}
use Rattle.ibm_fm.proofs.rows.push_byte.Goals as goal

pub returns : goal.returns
returns c = record {
  ok = c.push_fm.ensures.cells;
  room_stays = c.push_fm.ensures.room;
  succeeds = λ fits. c.push_fm.ensures.succeeds (omega (arith, length-fm c.args.byte, fits));
}
