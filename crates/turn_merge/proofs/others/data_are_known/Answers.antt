use Rattle.turn_merge.proofs.Untold.{data_are_known}
use Rattle.turn_merge.proofs.others.data_are_known.Goals as goal

pub returns : goal.returns
returns c = data_are_known
