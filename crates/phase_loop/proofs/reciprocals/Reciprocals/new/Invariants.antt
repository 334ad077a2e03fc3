use Rattle.std.proofs.Common.{◌≡◌, ◌<◌, ◌+◌, ◌/◌, ◌^◌, ℕ, length, get_or}
use Rattle.phase_loop.proofs.reciprocals.Reciprocals.new.Given as goal

abbrev pub invariant-loop-before : goal.invariant-loop-before
invariant-loop-before l = (length l.table.items ≡ l.before) × ((k : ℕ) → k < l.before → get_or l.table.items k 0 ≡ 2 ^ 40 / (k + 1) + 1)
