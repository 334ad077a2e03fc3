use Rattle.library_calls.proofs.Growing.{cut_inputs_lead, parts_stay}
use Rattle.library_calls.proofs.laws.parts_stay.Goals as goal

pub returns-clause-parts : goal.returns-clause-parts
returns-clause-parts c = parts_stay c.growth_law.ensures.streams c.growth_law.ensures.padding

pub returns-clause-cut : goal.returns-clause-cut
returns-clause-cut c = cut_inputs_lead c.growth_law.ensures.streams c.growth_law.ensures.padding c.tracks_are_read.ensures
