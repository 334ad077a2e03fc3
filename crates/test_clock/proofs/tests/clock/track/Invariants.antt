use Rattle.std.proofs.Common.{◌≤◌, ◌^◌}
use Rattle.std.specs.List.{All}
use Rattle.test_clock.proofs.tests.clock.track.Given as goal

abbrev pub invariant-loop-time : goal.invariant-loop-time
invariant-loop-time l = All (λ time. time ≤ l.last) l.flux.times × (l.last ≤ 2 ^ 39)
