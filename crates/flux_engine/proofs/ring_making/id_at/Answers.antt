use Rattle.std.proofs.Common.{◌≤◌, arith}
use Rattle.sector_images.specs.Formats.{zone}
use Rattle.flux_engine.proofs.ring_making.id_at.Goals as goal

pub image_place-directory-requires-clause-sector : goal.image_place-directory-requires-clause-sector
image_place-directory-requires-clause-sector c =
    let has = c.requires.place in
    let some : 1 ≤ (zone c.args.format c.args.place.track.cylinder).sectors =
    (c.tracks_keep_bounds.ensures.bounds c.args.format c.args.place.track has.track).some in
    (omega (arith, has.first), omega (arith, some))
