use Rattle.flux_cli.proofs.InfoRun.{one_outcome_of_info}
use Rattle.flux_cli.proofs.NotedOne.{one-behind-notes}
use Rattle.flux_cli.proofs.laws.info_outcomes_are_one.Goals as goal

pub returns-clause-own : goal.returns-clause-own
returns-clause-own c = λ dump files start now start' now' mine others.
    one_outcome_of_info c.turns_are_one.ensures.one c.turns_are_one.ensures.refused dump files start now start' now' mine others

pub returns-clause-noted : goal.returns-clause-noted
returns-clause-noted c = λ dump files. one-behind-notes _ _ _ files (returns-clause-own c dump files)
