use Rattle.std.proofs.Common.{◌≡◌, ◌*◌, ◌<◌, ◌^◌, arith, sym, ◌∙◌}
use Rattle.sector_images.specs.Places.{place_of}
use Rattle.sector_images.proofs.Computed.{image_small, place_by_table, sum_before, track_within}
use Rattle.sector_images.proofs.places.track_place.Goals as goal

pub overflow_mul-result : goal.overflow_mul-result
overflow_mul-result c =
    let place : place_of c.args.format c.args.track ≡ c.sectors_before_track.result * c.from.result =
    rw (c.sectors_before_track.ensures, c.from.ensures, c.geometry.ensures.sector_size) (place_by_table c.args.format c.args.track c.requires) in
    let below : place_of c.args.format c.args.track < 2 ^ 32 =
    omega (arith, image_small c.args.format, track_within c.args.format c.args.track c.requires) in
    rw (← place) (omega arith)

pub returns-clause-place : goal.returns-clause-place
returns-clause-place c =
    rw (c.sectors_before_track.ensures, c.from.ensures, c.geometry.ensures.sector_size) (sym (place_by_table c.args.format c.args.track c.requires))

pub returns-clause-within : goal.returns-clause-within
returns-clause-within c =
    let place : place_of c.args.format c.args.track ≡ c.sectors_before_track.result * c.from.result =
    rw (c.sectors_before_track.ensures, c.from.ensures, c.geometry.ensures.sector_size) (place_by_table c.args.format c.args.track c.requires) in
    rw (← place) (track_within c.args.format c.args.track c.requires)

pub returns-clause-joined : goal.returns-clause-joined
returns-clause-joined c number found =
    let place : place_of c.args.format c.args.track ≡ c.sectors_before_track.result * c.from.result =
    rw (c.sectors_before_track.ensures, c.from.ensures, c.geometry.ensures.sector_size) (place_by_table c.args.format c.args.track c.requires) in
    sym place ∙ sum_before c.args.format c.args.track number found
