use Rattle.std.proofs.Common.{◌≡◌, take}
use Rattle.dump_turns.specs.Lines.{totals_of}
use Rattle.dump_turns.proofs.telling.totals.Given as goal

abbrev pub invariant-loop-number : goal.invariant-loop-number
invariant-loop-number l = l.totals ≡ totals_of (take l.number l.founds) l.spread
