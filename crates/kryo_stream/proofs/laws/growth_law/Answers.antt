use Rattle.kryo_stream.proofs.Growing.{padding_stays, streams_are_short, streams_keep_the_limit, streams_stay}
use Rattle.kryo_stream.proofs.TwoTurns.{streams_have_turns}
use Rattle.kryo_stream.proofs.laws.growth_law.Goals as goal

pub returns-clause-streams : goal.returns-clause-streams
returns-clause-streams c = streams_stay

pub returns-clause-padding : goal.returns-clause-padding
returns-clause-padding c = padding_stays

pub returns-clause-short : goal.returns-clause-short
returns-clause-short c = streams_are_short

pub returns-clause-limit : goal.returns-clause-limit
returns-clause-limit c = streams_keep_the_limit

pub returns-clause-turns : goal.returns-clause-turns
returns-clause-turns c = streams_have_turns
