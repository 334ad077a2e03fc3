use Rattle.law_stated_disks.proofs.Lies.{sectors_lie}
use Rattle.law_stated_disks.proofs.laws.sectors_lie_as_stated.Goals as goal

pub returns : goal.returns
returns c = sectors_lie
