use Rattle.law_stated_inputs.proofs.Folders.{folders}
use Rattle.law_stated_inputs.proofs.laws.folders_are_as_stated.Goals as goal

pub returns : goal.returns
returns c = folders
