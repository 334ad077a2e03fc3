use Rattle.std.proofs.Common.{◌≡◌, ◌*◌, ◌≤◌, ◌^◌}
use Rattle.test_clock.proofs.tests.clock.counts_of_steps.Given as goal

abbrev pub invariant-loop-time : goal.invariant-loop-time
invariant-loop-time l = (l.bench.fine ≡ 1024 * l.last) × (l.last ≤ 2 ^ 39)
