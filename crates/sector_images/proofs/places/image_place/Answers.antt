use Rattle.std.proofs.Common.{refl}
use Rattle.sector_images.specs.Places.{sector_place}
use Rattle.sector_images.proofs.places.image_place.Goals as goal

pub returns-clause-place : goal.returns-clause-place
unfolding sector_place
returns-clause-place c =
    rw (c.track_place.ensures.place, c.from.ensures, c.slot.ensures, c.from-size.ensures, c.geometry.ensures.sector_size) refl
