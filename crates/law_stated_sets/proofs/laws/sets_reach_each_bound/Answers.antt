use Rattle.law_stated_sets.proofs.Narrow.{sets_reach}
use Rattle.law_stated_sets.proofs.laws.sets_reach_each_bound.Goals as goal

pub returns : goal.returns
returns c =
    let reach = c.disks_reach_each_bound.ensures in
    sets_reach c.streams_are_joined_as_stated.ensures reach.late reach.specks
