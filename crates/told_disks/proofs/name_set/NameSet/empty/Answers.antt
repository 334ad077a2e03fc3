use Rattle.told_disks.proofs.Sets.{has_none}
use Rattle.told_disks.proofs.name_set.NameSet.empty.Goals as goal

pub returns-clause-has : goal.returns-clause-has
returns-clause-has c = λ size number. has_none size number
