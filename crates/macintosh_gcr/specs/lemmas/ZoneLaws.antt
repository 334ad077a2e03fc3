-- What the zones have in common.
use Rattle.std.specs.Prelude.{◌≡◌, ◌+◌, ◌*◌, ◌≤◌, refl}
use Rattle.std.proofs.Common.{lit≤, subst, sym}
use Rattle.flux_base.specs.Bounds.{LONGEST_RING, MOST_SECTOR_BYTES}
use Rattle.flux_base.specs.declared.track.TrackId.{TrackId}
use Rattle.disk_zones.specs.declared.zones.Zone.{Zone}
use Rattle.disk_zones.specs.lemmas.EachZone.{by_macintosh_zone}
use Rattle.track_rings.specs.Rows.{frame_size, ring_size, total}
use Rattle.macintosh_gcr.specs.Layout.{row_size, rows}
use Rattle.macintosh_gcr.specs.Sectors.{sectors_of, zone_of}

abbrev FillsRing : Zone → Type 0
FillsRing zone =
    (frame_size (row_size zone) 512 rows ≡ 5804)
    × (ring_size (row_size zone) zone.sectors 512 rows ≡ zone.ring_cells)
    × (zone.ring_cells ≤ LONGEST_RING)

-- the rows of a frame, and those of a track
pub sums : (track : TrackId)
    → (frame_size (row_size (zone_of track)) 512 rows ≡ 5804)
    × (ring_size (row_size (zone_of track)) (sectors_of track) 512 rows
    ≡ (zone_of track).ring_cells)
    × ((zone_of track).ring_cells ≤ LONGEST_RING)
unfolding total
sums track =
    by_macintosh_zone FillsRing track.cylinder (
      (refl, refl, lit≤ tt),
      (
        (refl, refl, lit≤ tt),
        ((refl, refl, lit≤ tt), ((refl, refl, lit≤ tt), (refl, refl, lit≤ tt))),
      ),
    )

abbrev HasFew : Zone → Type 0
HasFew zone = (1 ≤ zone.sectors) × (0 + zone.sectors ≤ 256) × (512 ≤ MOST_SECTOR_BYTES)

pub counts : (track : TrackId)
    → (1 ≤ sectors_of track) × (0 + sectors_of track ≤ 256) × (512 ≤ MOST_SECTOR_BYTES)
counts track =
    by_macintosh_zone HasFew track.cylinder (
      (lit≤ tt, lit≤ tt, lit≤ tt),
      (
        (lit≤ tt, lit≤ tt, lit≤ tt),
        ((lit≤ tt, lit≤ tt, lit≤ tt), ((lit≤ tt, lit≤ tt, lit≤ tt), (lit≤ tt, lit≤ tt, lit≤ tt))),
      ),
    )

-- a track has at most twelve sectors
pub few_sectors : (track : TrackId) → sectors_of track ≤ 12
few_sectors track = by_macintosh_zone (λ zone. zone.sectors ≤ 12) track.cylinder
    (lit≤ tt, (lit≤ tt, (lit≤ tt, (lit≤ tt, lit≤ tt))))

-- its sectors lie in the ring, and what is left is short
abbrev HasRoom : Zone → Type 0
HasRoom zone =
    (5988 * zone.sectors ≤ zone.ring_cells) × (zone.ring_cells ≤ 5988 * zone.sectors + 65535)

pub has_room : (track : TrackId) {zone : Zone} → zone ≡ zone_of track → HasRoom zone
has_room track is =
    subst HasRoom (sym is)
    (by_macintosh_zone HasRoom track.cylinder (
      (lit≤ tt, lit≤ tt),
      ((lit≤ tt, lit≤ tt), ((lit≤ tt, lit≤ tt), ((lit≤ tt, lit≤ tt), (lit≤ tt, lit≤ tt)))),
    ))
