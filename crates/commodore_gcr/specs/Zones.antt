-- The tracks of the disks of Commodore's drives, in zones that differ
-- in how many sectors they have.
use Rattle.std.specs.Prelude.{ℕ, ◌+◌, ◌*◌, ◌<◌}
use Rattle.flux_base.specs.declared.track.TrackId.{TrackId}
use Rattle.commodore_gcr.specs.declared.drive.CommodoreDrive.{CommodoreDrive}
use Rattle.commodore_gcr.specs.declared.drive.CommodoreDrive.TheVariants.{C1541, C8050}
use Rattle.disk_zones.specs.Zones.{commodore_8050_zone, commodore_zone}
use Rattle.disk_zones.specs.declared.zones.Zone.{Zone}

-- The cylinders that a disk may have: 40, of which a 1541's has the first 35 or all on one side,
-- and a 1571's the first 35 on both; an 8050's has 77 on one side, and an 8250's on both.
abbrev pub cylinders_of : CommodoreDrive → ℕ
cylinders_of C1541 = 40
cylinders_of C8050 = 77

-- the tracks
pub record IsCommodoreTrack (drive : CommodoreDrive) (track : TrackId) : Type 0 where
  pub cylinder : track.cylinder < cylinders_of drive
  pub head : track.head < 2

-- the tracks of a side, as headers number them on
abbrev pub side_tracks : CommodoreDrive → ℕ
side_tracks C1541 = 35
side_tracks C8050 = 77

-- tracks are numbered from 1, and on the second side from 36 or from 78
abbrev pub track_number : CommodoreDrive → TrackId → ℕ
track_number drive track = track.cylinder + 1 + side_tracks drive * track.head

-- the zone of a track
abbrev pub zone_of : CommodoreDrive → TrackId → Zone
zone_of C1541 track = commodore_zone track.cylinder
zone_of C8050 track = commodore_8050_zone track.cylinder

-- the sectors of a track
abbrev pub sectors_of : CommodoreDrive → TrackId → ℕ
sectors_of drive track = (zone_of drive track).sectors
