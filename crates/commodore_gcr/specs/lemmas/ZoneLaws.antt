-- What the zones have in common.
use Rattle.std.specs.Prelude.{◌≡◌, ◌+◌, ◌/◌, ◌<◌, ◌≤◌, refl}
use Rattle.std.proofs.Common.{arith, lit<, lit≤}
use Rattle.flux_base.specs.Bounds.{LONGEST_RING, MOST_SECTOR_BYTES}
use Rattle.flux_base.specs.declared.track.TrackId.{TrackId}
use Rattle.disk_zones.specs.Zones.{commodore_8050_inner, commodore_8050_outer, commodore_inner}
use Rattle.disk_zones.specs.Zones.{commodore_outer}
use Rattle.disk_zones.specs.declared.zones.Zone.{Zone}
use Rattle.disk_zones.specs.lemmas.EachZone.{Each, by_commodore_8050_zone, by_commodore_zone}
use Rattle.track_rings.specs.Rows.{frame_size, ring_size, total}
use Rattle.commodore_gcr.specs.declared.drive.CommodoreDrive.{CommodoreDrive}
use Rattle.commodore_gcr.specs.declared.drive.CommodoreDrive.TheVariants.{C1541, C8050}
use Rattle.commodore_gcr.specs.Layout.{row_size, rows}
use Rattle.commodore_gcr.specs.Zones.{IsCommodoreTrack, sectors_of, track_number, zone_of}

-- what holds of each zone of both drives holds of that of any track
by_zone_of : (Claim : Zone → Type 0) (drive : CommodoreDrive) (track : TrackId)
    → Each Claim commodore_outer commodore_inner
    → Each Claim commodore_8050_outer commodore_8050_inner
    → Claim (zone_of drive track)
by_zone_of Claim C1541 track each others = by_commodore_zone Claim track.cylinder each
by_zone_of Claim C8050 track each others = by_commodore_8050_zone Claim track.cylinder others

abbrev FillsRing : Zone → Type 0
FillsRing zone =
    (frame_size (row_size zone) 256 rows ≡ 2782)
    × (ring_size (row_size zone) zone.sectors 256 rows ≡ zone.ring_cells)
    × (zone.ring_cells ≤ LONGEST_RING)

-- the rows of a frame, and those of a track
pub sums : (drive : CommodoreDrive) (track : TrackId)
    → (frame_size (row_size (zone_of drive track)) 256 rows ≡ 2782)
    × (ring_size (row_size (zone_of drive track)) (sectors_of drive track) 256 rows
    ≡ (zone_of drive track).ring_cells)
    × ((zone_of drive track).ring_cells ≤ LONGEST_RING)
unfolding total
sums drive track =
    by_zone_of FillsRing drive track
    ((refl, refl, lit≤ tt), ((refl, refl, lit≤ tt), ((refl, refl, lit≤ tt), (refl, refl, lit≤ tt))))
    ((refl, refl, lit≤ tt), ((refl, refl, lit≤ tt), ((refl, refl, lit≤ tt), (refl, refl, lit≤ tt))))

abbrev HasFew : Zone → Type 0
HasFew zone = (1 ≤ zone.sectors) × (0 + zone.sectors ≤ 256) × (256 ≤ MOST_SECTOR_BYTES)

pub counts : (drive : CommodoreDrive) (track : TrackId)
    → (1 ≤ sectors_of drive track) × (0 + sectors_of drive track ≤ 256) × (256 ≤ MOST_SECTOR_BYTES)
counts drive track =
    by_zone_of HasFew drive track (
      (lit≤ tt, lit≤ tt, lit≤ tt),
      ((lit≤ tt, lit≤ tt, lit≤ tt), ((lit≤ tt, lit≤ tt, lit≤ tt), (lit≤ tt, lit≤ tt, lit≤ tt))),
    ) (
      (lit≤ tt, lit≤ tt, lit≤ tt),
      ((lit≤ tt, lit≤ tt, lit≤ tt), ((lit≤ tt, lit≤ tt, lit≤ tt), (lit≤ tt, lit≤ tt, lit≤ tt))),
    )

-- a sector's share of the ring has its rows and a gap of few bytes
abbrev HasRoom : Zone → Type 0
HasRoom zone =
    (2832 ≤ zone.ring_cells / zone.sectors) × (zone.ring_cells / zone.sectors < 2832 + 2048)

pub has_room : (drive : CommodoreDrive) (track : TrackId) → HasRoom (zone_of drive track)
has_room drive track =
    by_zone_of HasRoom drive track
    ((lit≤ tt, lit< tt), ((lit≤ tt, lit< tt), ((lit≤ tt, lit< tt), (lit≤ tt, lit< tt))))
    ((lit≤ tt, lit< tt), ((lit≤ tt, lit< tt), ((lit≤ tt, lit< tt), (lit≤ tt, lit< tt))))

-- the number of a track is a byte
pub number_fits : (drive : CommodoreDrive) (track : TrackId) → IsCommodoreTrack drive track
    → track_number drive track < 256
number_fits C1541 track known = omega (arith, known.cylinder, known.head)
number_fits C8050 track known = omega (arith, known.cylinder, known.head)
