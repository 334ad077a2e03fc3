use Rattle.flux_cli.proofs.ImdOne.{one_outcome_of_imd}
use Rattle.flux_cli.proofs.NotedOne.{one-behind-notes}
use Rattle.flux_cli.proofs.imd_law.imd_outcomes_are_one.Goals as goal

pub returns-clause-own : goal.returns-clause-own
returns-clause-own c = λ asked files start now start' now' mine others.
    one_outcome_of_imd c.found_files_are_one.ensures.one c.found_files_are_one.ensures.refused c.found_files_are_one.ensures.first asked files start now start' now' mine others

pub returns-clause-noted : goal.returns-clause-noted
returns-clause-noted c = λ asked files. one-behind-notes _ _ _ files (returns-clause-own c asked files)
