-- What a decoded disk says of each of its sectors, in its image and in its lines.
use Rattle.std.specs.Prelude.{◌≡◌, ◌≤◌, ◌<◌, ℕ, ◌+◌, false, List, length, drop, replicate}
use Rattle.std.specs.Prelude.{None}
use Rattle.flux_base.specs.declared.track.TrackId.{TrackId}
use Rattle.frame_law.specs.Readings.{AreReadings}
use Rattle.kryo_stream.specs.Stream.{times, indexes}
use Rattle.sector_images.specs.Formats.{row}
use Rattle.sector_images.specs.Places.{IsSector, tracks}
use Rattle.sector_images.specs.declared.format.Format.{Format}
use Rattle.sector_report.specs.LineLaws.{LineFits, line_ends}
use Rattle.sector_report.specs.declared.naming.Naming.TheVariants.{Unnamed}
use Rattle.sector_report.specs.Lines.{sector_text}
use Rattle.turn_merge.specs.Readings.{verdict}
use Rattle.turn_merge.specs.declared.verdict.Place.{Place}
use Rattle.turn_merge.specs.declared.verdict.Verdict.{Verdict}
use Rattle.turn_merge.specs.declared.verdict.Verdict.TheVariants.{Good}
use Rattle.library_calls.specs.Disks.{AreParts, Decoded, IsDecoded, decoded_count}
use Rattle.flux_engine.specs.Disks.{images, part_at}
use Rattle.disk_recordings.specs.Members.{header_at, sector_at}
use Rattle.flux_engine.specs.Recordings.{track_at}
use Rattle.flux_engine.specs.Streams.{stream_at}
use Rattle.flux_engine.specs.Tracks.{Found, TrackPart, is_good, place_at, readings_of}
use Rattle.flux_engine.specs.DiskLaws.{StandsInImage, cells_at, HasLine, sectors_before}
use Rattle.flux_engine.specs.DiskLaws.{line_number, total_lines, bytes_at}

-- the parts of a decoded disk stand at the places of their tracks
abbrev pub PartsStandAtTheirPlaces : Type 0
PartsStandAtTheirPlaces =
    (format : Format) (x : List ℕ) (o : Decoded) (is : IsDecoded format x o) (n : ℕ)
    → n < length is.parts
    → StandsInImage format (track_at format n) (part_at is.parts n).image o.image

-- a disk that is decoded to its end has all bytes of the format's image
abbrev pub WholeDisksFillImages : Type 0
WholeDisksFillImages =
    (format : Format) (x : List ℕ) (o : Decoded) → IsDecoded format x o → o.stop ≡ None
    → length o.image ≡ (row format).image_size

-- the parts of the first tracks have no more bytes than the format's image
abbrev pub PartsFitImages : Type 0
PartsFitImages = (format : Format) (x : List ℕ) (parts : List TrackPart) → AreParts format x parts
    → length parts ≤ length (tracks format)
    → length (images parts) ≤ (row format).image_size

-- the input comes to this outcome, track number n is one of those that are decoded, and
-- the sector is one of the track's
pub record IsDecodedSector (format : Format) (x : List ℕ) (o : Decoded)
    (n sector : ℕ) : Type 0 where
  pub outcome : IsDecoded format x o
  pub track_decoded : n < decoded_count format o.stop
  pub sector_known : IsSector format (track_at format n) sector

-- this is the verdict on a sector of track number n of an input, over all that is read on the track
pub record HasVerdict (format : Format) (x : List ℕ) (n sector : ℕ)
    (outcome : Verdict) : Type 0 where
  pub found : List Found
  pub all : AreReadings (header_at format (track_at format n))
      (sector_at format (track_at format n)) (cells_at format x n) 0 found
  pub is : verdict
      (readings_of (times (stream_at x n)) (indexes (stream_at x n)) (cells_at format x n) found)
      sector
      ≡ outcome

pub record HasOneVerdict (format : Format) (x : List ℕ) (n sector : ℕ) : Type 0 where
  pub outcome : Verdict
  pub has : HasVerdict format x n sector outcome
  pub only : (other : Verdict) → HasVerdict format x n sector other → other ≡ outcome

-- each sector of a decoded track has one verdict
abbrev pub EachHasOneVerdict : Type 0
EachHasOneVerdict = (format : Format) (x : List ℕ) (o : Decoded) (n sector : ℕ)
    → IsDecodedSector format x o n sector
    → HasOneVerdict format x n sector

-- the report's line of each sector names the sector and its verdict
abbrev pub LinesNameVerdicts : Type 0
LinesNameVerdicts = (format : Format) (x : List ℕ) (o : Decoded) (n sector : ℕ)
    → IsDecodedSector format x o n sector
    → (outcome : Verdict) → HasVerdict format x n sector outcome
    → HasLine o.notes (sector_text (track_at format n) sector outcome) (line_number format n sector)

-- the report has a line for each sector of the decoded tracks, and the total line; it has no other
abbrev pub ReportsHaveNoOtherLines : Type 0
ReportsHaveNoOtherLines = (format : Format) (x : List ℕ) (o : Decoded) → IsDecoded format x o
    → line_ends o.notes ≡ sectors_before format (decoded_count format o.stop) + total_lines o.stop

-- Where a sector's line, of whatever numbers that fit in it, is a line of the report, it is the
-- line of that sector of a decoded track, and its verdict is the one that the line names.
pub record IsTold (format : Format) (x : List ℕ) (o : Decoded) (track : TrackId) (sector : ℕ)
    (outcome : Verdict) (number : ℕ) : Type 0 where
  pub n : ℕ
  pub track_is : track ≡ track_at format n
  pub decoded : IsDecodedSector format x o n sector
  pub has : HasVerdict format x n sector outcome
  pub number_is : number ≡ line_number format n sector

abbrev pub LinesTellVerdicts : Type 0
LinesTellVerdicts = (format : Format) (x : List ℕ) (o : Decoded) → IsDecoded format x o
    → (track : TrackId) (sector : ℕ) (outcome : Verdict) (number : ℕ)
    → LineFits Unnamed track sector outcome
    → HasLine o.notes (sector_text track sector outcome) number
    → IsTold format x o track sector outcome number

-- A sector of track number n is good with its first good reading at this place: there the
-- recovered cells of the track's stream hold the sector, with its sync, header, data and
-- check values, in the turn that the place names; its bytes are a sector's in number, and are
-- those at the sector's place in the disk's image; and each place of the track whose cells
-- hold this sector holds the same bytes.
pub record IsRightlyGoodOnDisk (format : Format) (x image : List ℕ) (n sector : ℕ)
    (first : Place) : Type 0 where
  pub bytes : List ℕ
  pub stands : sector_at format (track_at format n) (drop first.cell (cells_at format x n)) sector
      bytes
  pub turn : first
      ≡ place_at (times (stream_at x n)) (indexes (stream_at x n)) (cells_at format x n) first.cell
  pub size : length bytes ≡ (row format).sector_size
  pub in_image : bytes_at format image (track_at format n) sector ≡ bytes
  pub agreed : (place : ℕ) (others : List ℕ)
      → sector_at format (track_at format n) (drop place (cells_at format x n)) sector others
      → others ≡ bytes

-- wherever the verdict on a sector of a disk is good
abbrev pub GoodIsRightOnDisks : Type 0
GoodIsRightOnDisks = (format : Format) (x : List ℕ) (o : Decoded) (n sector : ℕ)
    → IsDecodedSector format x o n sector
    → (good bad : ℕ) (first : Place) → HasVerdict format x n sector (Good good bad first)
    → IsRightlyGoodOnDisk format x o.image n sector first

-- a sector with any other verdict has zeros at its place in the image
abbrev pub OthersAreZeros : Type 0
OthersAreZeros = (format : Format) (x : List ℕ) (o : Decoded) (n sector : ℕ)
    → IsDecodedSector format x o n sector
    → (outcome : Verdict) → HasVerdict format x n sector outcome → is_good outcome ≡ false
    → bytes_at format o.image (track_at format n) sector ≡ replicate (row format).sector_size 0
