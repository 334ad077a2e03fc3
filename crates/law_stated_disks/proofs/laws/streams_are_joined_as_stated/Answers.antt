use Rattle.law_stated_disks.proofs.Joined.{streams_are_joined}
use Rattle.law_stated_disks.proofs.laws.streams_are_joined_as_stated.Goals as goal

pub returns : goal.returns
returns c = streams_are_joined
