use Rattle.law_stated_tables.proofs.Places.{numbered_places_are_stated, places_are_stated}
use Rattle.law_stated_tables.proofs.laws.places_are_stated.Goals as goal

pub returns-clause-named : goal.returns-clause-named
returns-clause-named c = places_are_stated

pub returns-clause-numbered : goal.returns-clause-numbered
returns-clause-numbered c = numbered_places_are_stated
