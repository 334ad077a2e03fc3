use Rattle.std.proofs.Common.{◌≢◌, ◌<◌, ℕ, decimal}
use Rattle.flux_words.proofs.options.copy_number.Given as goal

abbrev pub invariant-loop-number : goal.invariant-loop-number
invariant-loop-number l = (k : ℕ) → k < l.number → decimal k ≢ l.word
