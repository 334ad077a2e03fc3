use Rattle.flux_cli.proofs.SectorRun.{one_outcome_of_sector}
use Rattle.flux_cli.proofs.laws.sector_outcomes_are_one.Goals as goal

pub returns : goal.returns
returns c = λ asked files captures start now start' now' mine others.
    one_outcome_of_sector c.shown_sectors_are_one.ensures asked files captures start now start' now' mine others
