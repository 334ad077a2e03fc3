use Rattle.std.proofs.Common.{Option, subst}
use Rattle.told_disks.specs.Names.{HasCounted}
use Rattle.told_disks.specs.declared.told.Reach.{Reach}
use Rattle.told_disks.specs.inside.Loops.{IsReachOrNone}
use Rattle.told_disks.proofs.Spans.{reach_first, reach_wider}
use Rattle.told_disks.proofs.told.with_track.Goals as goal

pub returns-in-None : goal.returns-in-None
returns-in-None c = λ sets size is met.
    reach_first (HasCounted sets size) c.args.track met (subst (λ (r : Option Reach). IsReachOrNone (HasCounted sets size) c.args.track r) c.in-None.is is)

pub returns-in-Some : goal.returns-in-Some
returns-in-Some c = λ sets size is met.
    reach_wider (HasCounted sets size) c.args.track met c.in-Some.before (subst (λ (r : Option Reach). IsReachOrNone (HasCounted sets size) c.args.track r) c.in-Some.is is)
    c.max.result c.max-in-Some.result c.max.ensures c.max-in-Some.ensures
