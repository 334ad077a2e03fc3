use Rattle.dump_numbers.proofs.OneList.{numbers_one}
use Rattle.dump_numbers.proofs.laws.numbers_are_one.Goals as goal

pub returns : goal.returns
returns c = numbers_one c.told_disks_are_one.ensures c.foreign_disks_are_one.ensures
