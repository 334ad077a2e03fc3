use Rattle.flux_cli.proofs.Outcomes.{one_outcome}
use Rattle.flux_cli.proofs.laws.outcomes_are_one.Goals as goal

pub returns : goal.returns
returns c = one_outcome c.words_ask_once.ensures c.file_disks_are_one.ensures c.plans_are_right.ensures.one
