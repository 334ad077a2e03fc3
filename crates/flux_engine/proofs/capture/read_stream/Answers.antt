use Rattle.flux_engine.proofs.Streams.{answered_bounded, read_answered}
use Rattle.flux_engine.proofs.capture.read_stream.Goals as goal

pub returns-clause-read : goal.returns-clause-read
returns-clause-read g c = read_answered _ _ _ _ _ _ c.read.result c.read.ensures.read

pub returns-clause-bounded : goal.returns-clause-bounded
returns-clause-bounded g c = answered_bounded _ _ _ _ _ _ c.growth_law.ensures.turns c.read.result c.read.ensures.read c.read.ensures.small
