use Rattle.std.proofs.Common.{◌<◌, ◌≤◌, ℕ}
use Rattle.told_disks.specs.Names.{count_of}
use Rattle.told_disks.proofs.told.most_of.Given as goal

abbrev pub invariant-loop-number : goal.invariant-loop-number
invariant-loop-number l = record {
  each : (number : ℕ) → number < l.number → count_of l.sets l.size number ≤ l.most;
  least : (bound : ℕ) → ((number : ℕ) → count_of l.sets l.size number ≤ bound) → l.most ≤ bound;
}
