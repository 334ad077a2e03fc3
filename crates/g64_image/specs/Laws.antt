-- What the definition of a file's disk comes to, also where the file is written of an image.
use Rattle.std.specs.Prelude.{◌≡◌, ◌<◌, ℕ, ◌+◌, ◌++◌, List, drop, length, None}
use Rattle.flux_base.specs.declared.track.TrackId.{TrackId}
use Rattle.disk_recordings.specs.Members.{header_at, place_in_ring, sector_at}
use Rattle.flux_engine.specs.DiskLaws.{HasLine, bytes_at, line_number, sectors_before, total_lines}
use Rattle.flux_engine.specs.Recordings.{track_at}
use Rattle.flux_engine.specs.Rings.{IsImage, ring_of}
use Rattle.flux_engine.specs.Tracks.{Found}
use Rattle.sector_images.specs.Formats.{row}
use Rattle.sector_images.specs.Places.{IsSector, tracks}
use Rattle.sector_images.specs.declared.format.Format.{Format}
use Rattle.sector_report.specs.LineLaws.{LineFits, line_ends}
use Rattle.sector_report.specs.Lines.{sector_text}
use Rattle.sector_report.specs.declared.naming.Naming.TheVariants.{Unnamed}
use Rattle.turn_merge.specs.Readings.{verdict}
use Rattle.turn_merge.specs.declared.verdict.Place.{Place}
use Rattle.turn_merge.specs.declared.verdict.Verdict.{Verdict}
use Rattle.turn_merge.specs.declared.verdict.Verdict.TheVariants.{Good}
use Rattle.g64_image.specs.Faults.{first_fault}
use Rattle.g64_image.specs.FileDisks.{AreReadingsTo, FileDisk, IsFileDisk, read_count, ring_place}
use Rattle.g64_image.specs.FileDisks.{ring_readings}
use Rattle.g64_image.specs.Layout.{IsCommodore, g64_file, track_cells}

-- a file comes to one disk
abbrev pub OneFileDisk : Type 0
OneFileDisk = (format : Format) (file : List ℕ) (a b : FileDisk) → IsFileDisk format file a
    → IsFileDisk format file b → a ≡ b

-- a file that is written of an image has no fault
abbrev pub WrittenFilesHaveNoFault : Type 0
WrittenFilesHaveNoFault =
    (format : Format) (image : List ℕ) → IsCommodore format → IsImage format image
    → first_fault format (g64_file format image) ≡ None

-- and it has of each track the cells of the ring with the image's bytes in its sectors
abbrev pub WrittenTracksAreRings : Type 0
WrittenTracksAreRings = (format : Format) (image : List ℕ) (n : ℕ) → IsCommodore format
    → IsImage format image → n < length (tracks format)
    → track_cells (g64_file format image) n ≡ ring_of format image n

-- all that can be read in the ring of a file's track number n
abbrev pub AreFileReadings : Format → List ℕ → ℕ → List Found → Type 0
AreFileReadings format file n found =
    AreReadingsTo (header_at format (track_at format n)) (sector_at format (track_at format n))
    (track_cells file n ++ track_cells file n) (length (track_cells file n)) 0 found

-- this is the verdict on a sector of the track, over all that can be read in its ring
pub record HasFileVerdict (format : Format) (file : List ℕ) (n sector : ℕ)
    (outcome : Verdict) : Type 0 where
  pub found : List Found
  pub all : AreFileReadings format file n found
  pub is : verdict (ring_readings found) sector ≡ outcome

-- this is the one verdict on it
pub record HasOneFileVerdict (format : Format) (file : List ℕ) (n sector : ℕ)
    (outcome : Verdict) : Type 0 where
  pub has : HasFileVerdict format file n sector outcome
  pub only : (other : Verdict) → HasFileVerdict format file n sector other → other ≡ outcome

-- the report of a file without a fault has a line for each sector, and the total line; it has no
-- other, and one with a fault has none
abbrev pub FileReportsHaveNoOtherLines : Type 0
FileReportsHaveNoOtherLines =
    (format : Format) (file : List ℕ) (o : FileDisk) → IsFileDisk format file o
    → line_ends o.notes ≡ sectors_before format (read_count format o.stop) + total_lines o.stop

-- the report's line of each sector, after those of all sectors before it,
-- names the sector and its verdict
abbrev pub LinesNameFileVerdicts : Type 0
LinesNameFileVerdicts =
    (format : Format) (file : List ℕ) (o : FileDisk) (n sector : ℕ) (outcome : Verdict)
    → IsFileDisk format file o → o.stop ≡ None
    → n < length (tracks format) → IsSector format (track_at format n) sector
    → HasFileVerdict format file n sector outcome
    → HasLine o.notes (sector_text (track_at format n) sector outcome) (line_number format n sector)

-- Where a sector's line, of whatever numbers that fit in it, is a line of the report, it is the
-- line of that sector, and its verdict is the one that the line names.
pub record IsToldOfFile (format : Format) (file : List ℕ) (o : FileDisk) (track : TrackId)
    (sector : ℕ) (outcome : Verdict) (number : ℕ) : Type 0 where
  pub no_fault : o.stop ≡ None
  pub n : ℕ
  pub low : n < length (tracks format)
  pub track_is : track ≡ track_at format n
  pub known : IsSector format (track_at format n) sector
  pub has : HasFileVerdict format file n sector outcome
  pub number_is : number ≡ line_number format n sector

abbrev pub LinesTellInFiles : Type 0
LinesTellInFiles = (format : Format) (file : List ℕ) (o : FileDisk) → IsFileDisk format file o
    → (track : TrackId) (sector : ℕ) (outcome : Verdict) (number : ℕ)
    → LineFits Unnamed track sector outcome
    → HasLine o.notes (sector_text track sector outcome) number
    → IsToldOfFile format file o track sector outcome number

-- The disk of a written file is that of the image: it has no fault and all of the image's bytes,
-- all sectors are counted as good, and each is read once, well, and never badly, at its place in
-- the ring of its track, as its line says.
pub record ComesBack (format : Format) (image : List ℕ) (o : FileDisk) : Type 0 where
  pub no_fault : o.stop ≡ None
  pub image_is : o.image ≡ image
  pub all_good : o.totals.good ≡ o.totals.sectors
  pub verdicts : (n sector : ℕ) → n < length (tracks format)
      → IsSector format (track_at format n) sector
      → HasOneFileVerdict format (g64_file format image) n sector (Good 1 0 (ring_place (place_in_ring format (track_at format n) sector)))
  pub lines : (n sector : ℕ) → n < length (tracks format)
      → IsSector format (track_at format n) sector
      → HasLine o.notes
      (sector_text (track_at format n) sector
      (Good 1 0 (ring_place (place_in_ring format (track_at format n) sector))))
      (line_number format n sector)

-- whatever disk the file of an image comes to
abbrev pub WrittenFilesComeBack : Type 0
WrittenFilesComeBack =
    (format : Format) (image : List ℕ) (o : FileDisk) → IsCommodore format → IsImage format image
    → IsFileDisk format (g64_file format image) o → ComesBack format image o

-- A sector of track number n of a file is good with its first good reading at this place, in the
-- ring's one turn: there the track's cells, with the same cells after them, hold the sector; its
-- bytes are a sector's in number, and are those at the sector's place in the file's image; and each
-- place of the cells at which this sector stands holds the same bytes.
pub record IsRightlyGoodInFile (format : Format) (file image : List ℕ) (n sector : ℕ)
    (first : Place) : Type 0 where
  pub bytes : List ℕ
  pub low : first.cell < length (track_cells file n)
  pub turn : first ≡ ring_place first.cell
  pub stands : sector_at format (track_at format n)
      (drop first.cell (track_cells file n ++ track_cells file n)) sector bytes
  pub size : length bytes ≡ (row format).sector_size
  pub in_image : bytes_at format image (track_at format n) sector ≡ bytes
  pub agreed : (place : ℕ) (others : List ℕ) → place < length (track_cells file n)
      → sector_at format (track_at format n) (drop place (track_cells file n ++ track_cells file n))
      sector others
      → others ≡ bytes

-- wherever the verdict on a sector of a file without a fault is good
abbrev pub GoodIsRightInFiles : Type 0
GoodIsRightInFiles = (format : Format) (file : List ℕ) (o : FileDisk) (n sector good bad : ℕ) (first : Place) → IsFileDisk format file o → o.stop ≡ None
    → n < length (tracks format) → IsSector format (track_at format n) sector
    → HasFileVerdict format file n sector (Good good bad first)
    → IsRightlyGoodInFile format file o.image n sector first
