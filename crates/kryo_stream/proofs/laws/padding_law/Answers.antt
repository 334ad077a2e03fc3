use Rattle.kryo_stream.proofs.PaddingLemmas.{IsPadding-padding_of}
use Rattle.kryo_stream.proofs.laws.padding_law.Goals as goal

pub returns : goal.returns
returns c = IsPadding-padding_of
