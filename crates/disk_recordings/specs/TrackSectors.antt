-- The tracks of a format, and their sectors.
use Rattle.std.specs.Prelude.{ℕ, slice_get, unwrap_or}
use Rattle.disk_recordings.specs.declared.sectors.Sectors.{Sectors}
use Rattle.flux_base.specs.declared.track.TrackId.{TrackId}
use Rattle.sector_images.specs.Formats.{row, zone}
use Rattle.sector_images.specs.Places.{tracks}
use Rattle.sector_images.specs.declared.format.Format.{Format}

-- track number n of the format, from 0
abbrev pub track_at : Format → ℕ → TrackId
track_at format n = unwrap_or (slice_get (tracks format) n) (record { cylinder = 0; head = 0 })

-- the sectors of a track
abbrev pub sectors_of : Format → TrackId → Sectors
sectors_of format track = record {
  first = (row format).first_sector;
  count = (zone format track.cylinder).sectors;
  size = (row format).sector_size;
}
