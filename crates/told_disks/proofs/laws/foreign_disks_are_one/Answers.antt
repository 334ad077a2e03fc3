use Rattle.told_disks.proofs.Alone.{foreign_one}
use Rattle.told_disks.proofs.laws.foreign_disks_are_one.Goals as goal

pub returns : goal.returns
returns c = foreign_one
