use Rattle.stream_files.proofs.Joining.{joined}
use Rattle.stream_files.proofs.laws.files_are_joined.Goals as goal

pub returns : goal.returns
returns c = joined c.padding_law.ensures
