use Rattle.macintosh_gcr.proofs.Groups.{ArePlain}
use Rattle.macintosh_gcr.proofs.coding.plain_of.Given as goal

abbrev pub invariant-loop-group : goal.invariant-loop-group
invariant-loop-group l = ArePlain l.values l.plain.items l.sums l.group
