use Rattle.flux_cli.proofs.NotedOne.{one-behind-notes}
use Rattle.flux_cli.proofs.ReadRun.{one_outcome_of_dumps}
use Rattle.flux_cli.proofs.laws.read_outcomes_are_one.Goals as goal

pub returns-clause-own : goal.returns-clause-own
returns-clause-own c = λ shown disk files start now start' now' mine others. one_outcome_of_dumps c.all_of_dumps_is_one.ensures disk files start now start' now' mine others shown

pub returns-clause-noted : goal.returns-clause-noted
returns-clause-noted c = λ shown disk files. one-behind-notes _ _ _ files (returns-clause-own c shown disk files)
