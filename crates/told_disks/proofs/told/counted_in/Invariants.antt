use Rattle.told_disks.proofs.Counting.{AreMarkedTo}
use Rattle.told_disks.proofs.told.counted_in.Given as goal

abbrev pub invariant-loop-number : goal.invariant-loop-number
invariant-loop-number l = AreMarkedTo l.sets l.size l.number l.counted
