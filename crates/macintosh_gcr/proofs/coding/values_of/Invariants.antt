use Rattle.macintosh_gcr.proofs.Groups.{AreValues}
use Rattle.macintosh_gcr.proofs.coding.values_of.Given as goal

abbrev pub invariant-loop-group : goal.invariant-loop-group
invariant-loop-group l = AreValues l.bytes l.values.items l.sums l.group
