-- What the laws of the recordings come to for the formats.
use Rattle.std.specs.Prelude.{◌≡◌, ◌≤◌, ℕ, ◌+◌, Bool, List, length, drop}
use Rattle.cell_bits.specs.Broken.{Unbroken}
use Rattle.flux_base.specs.declared.track.TrackId.{TrackId}
use Rattle.frame_law.specs.Controller.{DataAreTold, DataStandAlone, HasHeaderData, HasOnlyOwnData}
use Rattle.frame_law.specs.Controller.{SearchesFindAll, SectorStandsBy}
use Rattle.frame_law.specs.Others.{HasNoOtherBetweenZeros, HeadersAreTold, NamedDataAreOwn}
use Rattle.frame_law.specs.Laws.{HasOnlyOwn, HasOnlyOwnBetweenZeros, ReadingsAreAll, ReadingsAreOne}
use Rattle.frame_law.specs.Laws.{SectorsAreTold, StandsAlone}
use Rattle.sector_images.specs.Formats.{row, zone}
use Rattle.sector_images.specs.Places.{IsSector, IsTrack}
use Rattle.sector_images.specs.declared.format.Format.{Format}
use Rattle.track_rings.specs.Rings.{AreSectors, IsSpaced, LiesAt, bytes_of, stretch}
use Rattle.disk_recordings.specs.Members.{as_controllers_read, data_at, frame_cells, header_at}
use Rattle.disk_recordings.specs.Members.{is_name_of, named_at, place_in_ring, ring_at, sector_at}
use Rattle.disk_recordings.specs.Members.{whole_data_of}
use Rattle.disk_recordings.specs.declared.disk_id.DiskId.{DiskId}

-- Of each format's tracks, the cells tell which header and which sector stands in them, a list is
-- what repeated searches find exactly where it is all that stands there, and they find one list.
pub record TracksAreRead : Type 0 where
  pub told : (format : Format) (track : TrackId)
      → SectorsAreTold (header_at format track) (sector_at format track) (row format).sector_size
  pub all : (format : Format) (track : TrackId)
      → ReadingsAreAll (header_at format track) (sector_at format track)
  pub one : (format : Format) (track : TrackId)
      → ReadingsAreOne (header_at format track) (sector_at format track)

-- the bytes of all sectors of a track
abbrev pub AreTrackBytes : Format → TrackId → List ℕ → Type 0
AreTrackBytes format track bytes =
    AreSectors (zone format track.cylinder).sectors (row format).sector_size bytes

-- the ring of each track has the format's cells, and its neighbouring ones are 1 to 4 cells apart
abbrev pub RingsHaveCells : Type 0
RingsHaveCells = (format : Format) (id : DiskId) (track : TrackId) (bytes : List ℕ)
    → IsTrack format track → AreTrackBytes format track bytes
    → (length (ring_at format id track bytes) ≡ (zone format track.cylinder).ring_cells)
    × IsSpaced 1 4 (ring_at format id track bytes)

-- in any stretch of the repeated ring in which a sector's frame lies whole,
-- the sector stands with its bytes
abbrev pub SectorsStand : Type 0
SectorsStand =
    (format : Format) (id : DiskId) (track : TrackId) (bytes : List ℕ) (s from count place : ℕ)
    → IsTrack format track
    → AreTrackBytes format track bytes → IsSector format track s
    → LiesAt (zone format track.cylinder).ring_cells (place_in_ring format track s)
    (frame_cells format) from count place
    → sector_at format track (drop place (stretch (ring_at format id track bytes) from count)) s
    (bytes_of (row format).first_sector (row format).sector_size bytes s)

-- a sector's frame lies whole in the ring, and is unbroken there
abbrev pub FramesAreWhole : Type 0
FramesAreWhole = (format : Format) (id : DiskId) (track : TrackId) (bytes : List ℕ) (s : ℕ)
    → IsTrack format track → AreTrackBytes format track bytes
    → IsSector format track s
    → (place_in_ring format track s + frame_cells format ≤ (zone format track.cylinder).ring_cells)
    × Unbroken (ring_at format id track bytes) (place_in_ring format track s)
    (place_in_ring format track s + frame_cells format)

-- and has a cell at least
abbrev pub FramesHaveCells : Type 0
FramesHaveCells = (format : Format) → 1 ≤ frame_cells format

-- what stands on a track depends on its own cells alone, and nothing stands in cells without a one
abbrev pub StandAlone : Type 0
StandAlone = (format : Format) (track : TrackId) → IsTrack format track
    → StandsAlone (header_at format track) (sector_at format track)

-- in any stretch of the repeated ring between zeros, what stands is one of the ring's own sectors
abbrev pub OnlyOwnStand : Type 0
OnlyOwnStand =
    (format : Format) (id : DiskId) (track : TrackId) (bytes : List ℕ) (zeros from count behind : ℕ)
    → IsTrack format track
    → AreTrackBytes format track bytes
    → HasOnlyOwnBetweenZeros (header_at format track) (sector_at format track)
    (ring_at format id track bytes)
    (zone format track.cylinder).ring_cells (place_in_ring format track)
    (bytes_of (row format).first_sector (row format).sector_size bytes) zeros from count behind

-- in any stretch of it alone, and a header has its sector where the frame is not cut
abbrev pub StretchesHaveOnlyOwn : Type 0
StretchesHaveOnlyOwn =
    (format : Format) (id : DiskId) (track : TrackId) (bytes : List ℕ) (from count : ℕ)
    → IsTrack format track
    → AreTrackBytes format track bytes
    → HasOnlyOwn (header_at format track) (sector_at format track) (ring_at format id track bytes)
    (zone format track.cylinder).ring_cells (place_in_ring format track)
    (bytes_of (row format).first_sector (row format).sector_size bytes) (frame_cells format) from
    count

-- what stands on the tracks of one format stands on those of another, with the same bytes
pub record AreReadToo (format other : Format) : Type 0 where
  pub headers : (track : TrackId) (cells : List Bool) (s : ℕ) → header_at format track cells s
      → header_at other track cells s
  pub sectors : (track : TrackId) (cells : List Bool) (s : ℕ) (bytes : List ℕ)
      → sector_at format track cells s bytes → sector_at other track cells s bytes

-- By the second rule, as controllers read: of each format's tracks, repeated searches
-- find all data of a header, and all headers with all their data, and data at a place are
-- one thing; and what stands by the strict rule stands by this one, as controllers read
-- the format, with the same bytes.
pub record DataAreRead : Type 0 where
  pub of_header : (format : Format) (cells : List Bool) → SearchesFindAll (data_at format cells)
  pub of_track : (format : Format) (track : TrackId) (cells : List Bool)
      → SearchesFindAll (HasHeaderData (header_at format track) (data_at format) cells)
  pub told : (format : Format) → DataAreTold (data_at format) (row format).sector_size
  pub strict : (format : Format) (track : TrackId) (cells : List Bool) (s : ℕ) (bytes : List ℕ)
      → sector_at format track cells s bytes
      → SectorStandsBy (header_at (as_controllers_read format) track)
      (data_at (as_controllers_read format)) cells s bytes

-- by that rule too what stands on a track depends on its own cells alone,
-- in which no clock started anew
abbrev pub RewrittenStandAlone : Type 0
RewrittenStandAlone =
    (format : Format) (track : TrackId) → DataStandAlone (header_at format track) (data_at format)

-- in any stretch of the repeated ring between zeros, what stands by it is
-- one of the ring's own sectors
abbrev pub OnlyOwnDataStand : Type 0
OnlyOwnDataStand =
    (format : Format) (id : DiskId) (track : TrackId) (bytes : List ℕ) (zeros from count behind : ℕ)
    → IsTrack format track
    → AreTrackBytes format track bytes
    → HasOnlyOwnData (header_at format track) (data_at format) (ring_at format id track bytes)
    (zone format track.cylinder).ring_cells (place_in_ring format track)
    (bytes_of (row format).first_sector (row format).sector_size bytes) zeros from count behind

-- and in any stretch in which a sector's frame lies whole, the sector stands by it with its bytes
abbrev pub SectorsStandToo : Type 0
SectorsStandToo =
    (format : Format) (id : DiskId) (track : TrackId) (bytes : List ℕ) (s from count place : ℕ)
    → IsTrack format track
    → AreTrackBytes format track bytes → IsSector format track s
    → LiesAt (zone format track.cylinder).ring_cells (place_in_ring format track s)
    (frame_cells format) from count place
    → let content = bytes_of (row format).first_sector (row format).sector_size bytes s in
    SectorStandsBy (header_at format track) (data_at format)
    (drop place (stretch (ring_at format id track bytes) from count)) s content

-- Of each format's tracks, the cells tell the name of each header, and which of the track's
-- sectors it is of, if any; repeated searches find all headers; and whole data of a
-- sector's name are the sector's.
pub record NamesAreTold : Type 0 where
  pub told : (format : Format) (track : TrackId)
      → HeadersAreTold (named_at format) (is_name_of format track) (header_at format track)
  pub own_data : (format : Format) (track : TrackId)
      → NamedDataAreOwn (whole_data_of format) (is_name_of format track) (data_at format)

-- no other header than those of its sectors stands in any stretch of a
-- track's repeated ring between zeros
abbrev pub NoOtherStands : Type 0
NoOtherStands =
    (format : Format) (id : DiskId) (track : TrackId) (bytes : List ℕ) (zeros from count behind : ℕ)
    → IsTrack format track
    → AreTrackBytes format track bytes
    → HasNoOtherBetweenZeros (named_at format) (header_at format track)
    (ring_at format id track bytes) zeros from count behind
