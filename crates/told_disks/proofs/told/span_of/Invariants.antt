use Rattle.told_disks.specs.inside.Loops.{IsSpanOrNone}
use Rattle.told_disks.proofs.told.span_of.Given as goal

abbrev pub invariant-loop-number : goal.invariant-loop-number
invariant-loop-number l = IsSpanOrNone l.marked l.number l.span
