use Rattle.library_calls.proofs.Outcomes.{one_outcome, first_tracks_lead}
use Rattle.library_calls.proofs.laws.outcomes_are_one.Goals as goal

pub returns-clause-one : goal.returns-clause-one
returns-clause-one c = one_outcome c.tracks_are_read.ensures

pub returns-clause-first : goal.returns-clause-first
returns-clause-first c = first_tracks_lead c.tracks_are_read.ensures
