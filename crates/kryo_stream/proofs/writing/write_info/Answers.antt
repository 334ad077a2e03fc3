use Rattle.std.proofs.Math.ListN.{replicate}
use Rattle.flux_base.specs.lemmas.Parts.{Puts-then, Puts-cut}
use Rattle.kryo_stream.proofs.writing.write_info.Goals as goal

pub returns-in-Ok : goal.returns-in-Ok
returns-in-Ok g c = Puts-then c.write_blanks.result (rw c.write_u16.ensures at c.in-Ok.ensures) c.write_blanks.ensures

pub returns-in-Err : goal.returns-in-Err
returns-in-Err g c = Puts-cut (replicate c.args.length 32) (rw c.write_u16.ensures at c.in-Err.ensures)
