use Rattle.flux_writer.proofs.ReadsBack.{written_reads}
use Rattle.flux_writer.proofs.Sizes.{stream_takes}
use Rattle.flux_writer.proofs.laws.written_law.Goals as goal

pub returns-clause-reads : goal.returns-clause-reads
returns-clause-reads c = written_reads c.blocks_law.ensures

pub returns-clause-size : goal.returns-clause-size
returns-clause-size c = stream_takes
