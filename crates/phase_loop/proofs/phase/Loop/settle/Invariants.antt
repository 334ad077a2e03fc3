use Rattle.std.proofs.Common.{◌≤◌, ◌+◌, ◌*◌}
use Rattle.phase_loop.specs.inside.Certain.{AreEnds, stand_at}
use Rattle.phase_loop.proofs.phase.Loop.settle.Given as goal

abbrev pub invariant-loop-taken : goal.invariant-loop-taken
invariant-loop-taken l = record {
  ends : AreEnds l.early l.late (stand_at l.times l.last l.self l.counts l.taken);
  wide : l.late.place ≤ l.early.place + 2 * l.reach;
}
