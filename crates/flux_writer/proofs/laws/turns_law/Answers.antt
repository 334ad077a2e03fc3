use Rattle.flux_writer.proofs.CellsRead.{turns_read}
use Rattle.flux_writer.proofs.laws.turns_law.Goals as goal

pub returns : goal.returns
returns c = turns_read c.written_law.ensures.reads
