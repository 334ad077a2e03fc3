use Rattle.library_calls.proofs.SetOfOne.{sets_of_one}
use Rattle.library_calls.proofs.set_laws.sets_of_one_are_decoded.Goals as goal

pub returns : goal.returns
returns c = sets_of_one
