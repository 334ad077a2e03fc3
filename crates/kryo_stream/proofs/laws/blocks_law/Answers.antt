use Rattle.kryo_stream.proofs.Sequences.{blocks_read}
use Rattle.kryo_stream.proofs.laws.blocks_law.Goals as goal

pub returns : goal.returns
returns c = blocks_read
