use Rattle.std.proofs.Common.{◌≡◌, ◌<◌, ℕ, true, false, get_or}
use Rattle.told_disks.specs.Names.{has}
use Rattle.told_disks.proofs.told.has_some.Given as goal

abbrev pub invariant-loop-number : goal.invariant-loop-number
invariant-loop-number l = (number : ℕ) → number < l.number → get_or l.marked number false ≡ true → has l.set l.size number ≡ true → ⊥
