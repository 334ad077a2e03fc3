use Rattle.std.proofs.Common.{refl}
use Rattle.turn_merge.specs.Others.{others_over}
use Rattle.turn_merge.proofs.others.Others.new.Goals as goal

pub returns : goal.returns
unfolding others_over
returns c = record { notes = refl; told = c.in_ok-with_capacity.ensures.items; untold = refl }
