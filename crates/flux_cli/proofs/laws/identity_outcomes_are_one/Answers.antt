use Rattle.flux_cli.proofs.IdentityRun.{one_outcome_of_dump}
use Rattle.flux_cli.proofs.laws.identity_outcomes_are_one.Goals as goal

pub returns : goal.returns
returns c = λ dump files start now start' now' mine others.
    one_outcome_of_dump c.identities_are_one.ensures.one c.identities_are_one.ensures.refused dump files start now start' now' mine others
