use Rattle.std.proofs.Common.{true, false}
use Rattle.std.proofs.lemmas.List.{get_or-replicate}
use Rattle.told_disks.proofs.Sets.{has_below}
use Rattle.told_disks.proofs.told.has_any.Goals as goal

pub returns-clause-no : goal.returns-clause-no
returns-clause-no c = λ none is. c.has_some.ensures.no none is.0 (get_or-replicate 256 is.0 true false (has_below c.args.set.now c.args.size is.0 is.1)) is.1
