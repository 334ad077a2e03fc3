use Rattle.flux_engine.proofs.RingLaws.{writes_captures}
use Rattle.flux_engine.proofs.write_laws.streams_are_captures.Goals as goal

pub returns : goal.returns
returns c = writes_captures c.tracks_have_rings.ensures.cells c.tracks_keep_bounds.ensures.bounds c.sectors_lie_in_images.ensures.numbers c.sectors_lie_in_images.ensures.sectors c.track_law.ensures
