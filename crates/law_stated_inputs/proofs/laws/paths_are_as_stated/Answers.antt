use Rattle.law_stated_inputs.proofs.Paths.{paths}
use Rattle.law_stated_inputs.proofs.laws.paths_are_as_stated.Goals as goal

pub returns : goal.returns
returns c = paths c.files_name_dumps.ensures.names c.files_name_dumps.ensures.scp
