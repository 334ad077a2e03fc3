use Rattle.flux_engine.proofs.CapturedCells.{captures_are_erased, captures_recovered, erased_are_recovered, written_are_recovered}
use Rattle.flux_engine.proofs.write_laws.captures_are_recovered.Goals as goal

pub returns-clause-captures : goal.returns-clause-captures
returns-clause-captures c = captures_recovered c.disturbed_rings_are_recovered.ensures.turns c.tracks_keep_bounds.ensures.bounds

pub returns-clause-erased : goal.returns-clause-erased
returns-clause-erased c = erased_are_recovered c.disturbed_rings_are_recovered.ensures.turns c.tracks_keep_bounds.ensures.bounds

pub returns-clause-alike : goal.returns-clause-alike
returns-clause-alike c = captures_are_erased

pub returns-clause-written : goal.returns-clause-written
returns-clause-written c =
    written_are_recovered c.disturbed_rings_are_recovered.ensures.turns c.tracks_keep_bounds.ensures.bounds c.tracks_have_rings.ensures.cells c.sectors_lie_in_images.ensures.numbers c.sectors_lie_in_images.ensures.sectors
    c.streams_are_captures.ensures
