use Rattle.std.proofs.Common.{◌≡◌, length}
use Rattle.phase_loop.specs.inside.Certain.{AreTicks}
use Rattle.phase_loop.proofs.phase.certain.put_ticks.Given as goal

abbrev pub invariant-loop-place : goal.invariant-loop-place
invariant-loop-place l = record {
  whole : length l.ticks ≡ 2112;
  are : AreTicks l.times l.first l.place l.ticks;
}
