use Rattle.law_stated_dumps.proofs.Mixed.{dumps_reach}
use Rattle.law_stated_dumps.proofs.laws.dumps_reach_each_bound.Goals as goal

pub returns : goal.returns
returns c = dumps_reach c.disks_reach_each_bound.ensures.late
