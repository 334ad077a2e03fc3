use Rattle.std.proofs.Common.{ℕ, ◌≤◌, ◌<◌, ◌+◌, ◌-◌, length, get_or}
use Rattle.kryo_stream.proofs.bench.skipped_before.Given as goal

abbrev pub invariant-loop-low : goal.invariant-loop-low
invariant-loop-low l = record {
  order : l.low ≤ l.high;
  inside : l.high ≤ length l.skipped;
  before : (j : ℕ) → j < l.low → get_or l.skipped j 0 ≤ l.count + j;
  behind : (j : ℕ) → l.high ≤ j → j < length l.skipped → l.count + j < get_or l.skipped j 0;
}

abbrev pub decreases-loop-low : goal.decreases-loop-low
decreases-loop-low l = l.high - l.low
