use Rattle.sector_images.proofs.Computed.{track_number}
use Rattle.sector_images.proofs.places.track_count.Goals as goal

pub returns : goal.returns
returns c = rw (c.from.ensures, c.from-2.ensures, c.geometry-geometry.ensures.cylinders, c.geometry-geometry.ensures.heads) (track_number c.args.format)
