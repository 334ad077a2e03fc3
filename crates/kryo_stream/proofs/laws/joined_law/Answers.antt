use Rattle.kryo_stream.proofs.Joining.{padding_is_passed}
use Rattle.kryo_stream.proofs.laws.joined_law.Goals as goal

pub returns : goal.returns
returns c = padding_is_passed
