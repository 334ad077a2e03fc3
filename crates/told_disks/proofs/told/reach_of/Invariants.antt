use Rattle.told_disks.specs.Names.{HasCounted}
use Rattle.told_disks.specs.inside.Loops.{IsReachOrNone}
use Rattle.told_disks.proofs.told.reach_of.Given as goal

abbrev pub invariant-loop-track : goal.invariant-loop-track
invariant-loop-track l = IsReachOrNone (HasCounted l.sets l.size) l.track l.reach
