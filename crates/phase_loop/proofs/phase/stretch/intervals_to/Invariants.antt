use Rattle.std.proofs.Common.{◌≡◌, take, length}
use Rattle.phase_loop.specs.inside.Stretch.{intervals_with}
use Rattle.phase_loop.proofs.phase.stretch.intervals_to.Given as goal

abbrev pub invariant-loop-place : goal.invariant-loop-place
invariant-loop-place l = (length l.intervals ≡ 64) × (take l.place l.intervals ≡ intervals_with l.times l.first (take l.place l.counts))
