use Rattle.std.proofs.Common.{◌≤◌, ◌<◌, ℕ}
use Rattle.told_disks.specs.Names.{HasAny, set_at}
use Rattle.told_disks.proofs.told.reaches.Given as goal

abbrev pub invariant-loop-track : goal.invariant-loop-track
invariant-loop-track l = (track : ℕ) → 2 ≤ track → track < l.track → HasAny (set_at l.sets track) l.size → ⊥
