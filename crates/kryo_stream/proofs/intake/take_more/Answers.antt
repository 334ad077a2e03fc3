use Rattle.flux_base.specs.lemmas.Counting.{Counts-call}
use Rattle.kryo_stream.proofs.intake.take_more.Goals as goal

pub returns-clause-counts : goal.returns-clause-counts
returns-clause-counts g c = Counts-call c.read.result c.read.ensures.later c.read.ensures.cause c.read.ensures.counted
