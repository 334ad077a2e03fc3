use Rattle.told_disks.proofs.Alone.{told_one}
use Rattle.told_disks.proofs.laws.told_disks_are_one.Goals as goal

pub returns : goal.returns
returns c = told_one
