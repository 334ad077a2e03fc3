use Rattle.kryo_stream.proofs.Sequences.{blocks_faulty}
use Rattle.kryo_stream.proofs.laws.turn_faults_law.Goals as goal

pub returns : goal.returns
returns c = blocks_faulty
