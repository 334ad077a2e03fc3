use Rattle.flux_writer.proofs.CellsRead.{track_reads}
use Rattle.flux_writer.proofs.laws.track_law.Goals as goal

pub returns : goal.returns
returns c = track_reads c.turns_law.ensures
