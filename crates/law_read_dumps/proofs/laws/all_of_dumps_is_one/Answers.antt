use Rattle.law_read_dumps.proofs.Streams.{all_is_one}
use Rattle.law_read_dumps.proofs.laws.all_of_dumps_is_one.Goals as goal

pub returns : goal.returns
returns c = all_is_one c.rules_are_read.ensures c.plans_are_right.ensures.readings
