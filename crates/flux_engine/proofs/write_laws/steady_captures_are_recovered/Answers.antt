use Rattle.flux_engine.proofs.CapturedCells.{steady_captures_recovered, steady_erased_are_recovered}
use Rattle.flux_engine.proofs.RingLaws.{writes_steady_captures}
use Rattle.flux_engine.proofs.write_laws.steady_captures_are_recovered.Goals as goal

pub returns-clause-captures : goal.returns-clause-captures
returns-clause-captures c =
    steady_captures_recovered c.disturbed_rings_are_recovered.ensures.turns c.steady_rings_are_recovered.ensures.turns c.tracks_keep_bounds.ensures.bounds

pub returns-clause-erased : goal.returns-clause-erased
returns-clause-erased c =
    steady_erased_are_recovered c.disturbed_rings_are_recovered.ensures.turns c.steady_rings_are_recovered.ensures.turns c.tracks_keep_bounds.ensures.bounds

pub returns-clause-written : goal.returns-clause-written
returns-clause-written c =
    writes_steady_captures c.tracks_have_rings.ensures.cells c.tracks_keep_bounds.ensures.bounds c.sectors_lie_in_images.ensures.numbers c.sectors_lie_in_images.ensures.sectors c.track_law.ensures
