use Rattle.kryo_stream.proofs.StreamLaws.{begins_without_fault, no_fault_at_start, stream-same}
use Rattle.kryo_stream.proofs.laws.stream_law.Goals as goal

pub returns-clause-sound : goal.returns-clause-sound
returns-clause-sound c = begins_without_fault

pub returns-clause-complete : goal.returns-clause-complete
returns-clause-complete c = no_fault_at_start

pub returns-clause-same : goal.returns-clause-same
returns-clause-same c = stream-same
