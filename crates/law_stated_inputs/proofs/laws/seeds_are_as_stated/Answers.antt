use Rattle.law_stated_inputs.proofs.Seeds.{seeds, without}
use Rattle.law_stated_inputs.proofs.laws.seeds_are_as_stated.Goals as goal

pub returns : goal.returns
returns c = record { stated = seeds; some = without }
