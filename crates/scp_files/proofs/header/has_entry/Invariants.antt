use Rattle.std.proofs.Common.{◌≡◌, ◌≤◌, ◌<◌, ◌==◌, ◌||◌, ℕ, true, nat_le}
use Rattle.scp_files.specs.Files.{entry_at, entry_end}
use Rattle.scp_files.proofs.header.has_entry.Given as goal

abbrev pub invariant-loop-before : goal.invariant-loop-before
invariant-loop-before l = record {
  within : l.before ≤ l.number;
  each : (k : ℕ) → k < l.before → (entry_at l.file k == 0 || nat_le (entry_end l.number) (entry_at l.file k)) ≡ true;
}
