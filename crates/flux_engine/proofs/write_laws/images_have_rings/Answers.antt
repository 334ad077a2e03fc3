use Rattle.flux_engine.proofs.RingLaws.{images_have_rings}
use Rattle.flux_engine.proofs.write_laws.images_have_rings.Goals as goal

pub returns : goal.returns
returns c = images_have_rings c.tracks_have_rings.ensures.cells c.sectors_lie_in_images.ensures.numbers c.sectors_lie_in_images.ensures.sectors
