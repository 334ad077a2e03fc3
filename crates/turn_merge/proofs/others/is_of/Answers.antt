use Rattle.std.proofs.Common.{rules}
use Rattle.turn_merge.proofs.OtherNames.{same_decides}
use Rattle.turn_merge.proofs.others.is_of.Goals as goal

pub returns : goal.returns
returns c = same_decides c.args.other.now.name c.args.name c.eq.result (λ is. search rules) (λ same. search rules)
