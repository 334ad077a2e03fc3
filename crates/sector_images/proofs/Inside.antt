-- Tracks by their numbers, and sectors inside the image.
use Rattle.std.specs.Prelude.{◌≤◌, ◌+◌}
use Rattle.std.proofs.Common.{arith}
use Rattle.flux_base.specs.lemmas.Sizes.{one_more}
use Rattle.sector_images.specs.Formats.{row, slot, zone}
use Rattle.sector_images.specs.Places.{NumbersNameTracks, SectorsLieInImages, bytes_of, place_of, sector_place}
use Rattle.sector_images.proofs.Computed.{counted, id_at, numbered_track, track_within}
use Rattle.sector_images.proofs.Slots.{sectors_fill_tracks}

pub numbers_name_tracks : NumbersNameTracks
numbers_name_tracks format number below = (counted format number, id_at format number below, numbered_track format number below)

pub sectors_lie_in_images : SectorsLieInImages
unfolding sector_place
sectors_lie_in_images format track sector known number =
    let whole : place_of format track + bytes_of format track ≤ (row format).image_size = track_within format track known in
    let inside = one_more (row format).sector_size (slot format sector) (zone format track.cylinder).sectors
    (sectors_fill_tracks format track sector number).0 in
    omega (arith, whole, inside)
