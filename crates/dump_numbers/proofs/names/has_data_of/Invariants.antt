use Rattle.std.proofs.Common.{◌≡◌, ◌<◌, ℕ, true, List, drop, length, ◌-◌}
use Rattle.dump_numbers.specs.TurnRule.{is_of_rate}
use Rattle.dump_numbers.proofs.names.has_data_of.Given as goal

-- none of the data so far is of the rate
abbrev pub invariant-loop-behind : goal.invariant-loop-behind
invariant-loop-behind g l =
    (behind : ℕ) (bytes : List ℕ) → behind < l.from → g.R.Recording.data_at l.recording (drop l.header.place l.header.cells.now.cells) behind bytes
    → is_of_rate l.header.rate l.header.flux.now.times l.header.flux.now.indexes l.header.cells.now.cells l.header.place behind ≡ true → ⊥

abbrev pub decreases-loop-behind : goal.decreases-loop-behind
decreases-loop-behind g l = length l.header.cells.now.cells - l.from
