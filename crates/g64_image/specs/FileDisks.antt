-- What a file comes to: its tracks, each read as a ring, and from them an
-- image, a report and its totals.
use Rattle.std.specs.Prelude.{◌≡◌, ◌<◌, ℕ, ◌+◌, ◌++◌, Bool, List, [], ◌∷◌, flat_map, length, Option}
use Rattle.std.specs.Prelude.{Some, None}
use Rattle.disk_recordings.specs.Members.{header_at, sector_at}
use Rattle.flux_base.specs.declared.track.TrackId.{TrackId}
use Rattle.flux_engine.specs.Disks.{DiskReport, part_at, report_over}
use Rattle.flux_engine.specs.Recordings.{track_at}
use Rattle.flux_engine.specs.Tracks.{Found, TrackPart, part_of, readings_at}
use Rattle.frame_law.specs.Readings.{FirstReading, NoHeader}
use Rattle.sector_images.specs.Places.{tracks}
use Rattle.sector_images.specs.declared.format.Format.{Format}
use Rattle.turn_merge.specs.Readings.{NotedReading}
use Rattle.turn_merge.specs.declared.clock.Clock.TheVariants.{Following}
use Rattle.turn_merge.specs.declared.verdict.Place.{Place}
use Rattle.g64_image.specs.Faults.{first_fault}
use Rattle.g64_image.specs.Layout.{track_cells}
use Rattle.g64_image.specs.declared.fault.G64Fault.{G64Fault}

module _ (header : List Bool → ℕ → Type 0) (sector : List Bool → ℕ → List ℕ → Type 0)
    (cells : List Bool) (end : ℕ) where
  -- All readings at places from one on, and below the end, by rising place, each with its bytes.
  abbrev pub AreReadingsTo : ℕ → List Found → Type 0
  AreReadingsTo from [] = NoHeader header cells from end
  AreReadingsTo from (found ∷ rest) =
      FirstReading header sector cells from (Some (found.0, found.1)) found.2 × (found.0 < end)
      × AreReadingsTo (found.0 + 1) rest

-- a place of a track that is kept as one ring: it lies in turn 0 of one capture, whose
-- cells no clock had to recover
abbrev pub ring_place : ℕ → Place
ring_place cell = record { capture = 0; clock = Following; turn = 0; cell = cell }

-- the readings of all that is found on such a track
abbrev pub ring_readings : List Found → List NotedReading
ring_readings found = flat_map (λ f. readings_at (ring_place f.0) f.1 f.2) found

-- All that can be read in a ring of these cells, and what it comes to: at each place of the cells,
-- where the first cells stand once more after the last.
pub record IsRingPart (format : Format) (track : TrackId) (cells : List Bool)
    (part : TrackPart) : Type 0 where
  pub found : List Found
  pub all : AreReadingsTo (header_at format track) (sector_at format track) (cells ++ cells)
      (length cells) 0 found
  pub is : part ≡ part_of format track (ring_readings found)

-- what the cells come to that a file has of track number n
abbrev pub IsFilePart : Format → List ℕ → ℕ → TrackPart → Type 0
IsFilePart format file n part = IsRingPart format (track_at format n) (track_cells file n) part

-- the first tracks of a file, one for each part
abbrev pub AreFileParts : Format → List ℕ → List TrackPart → Type 0
AreFileParts format file parts =
    (n : ℕ) → n < length parts → IsFilePart format file n (part_at parts n)

-- a disk that is read of a file is stopped by the file's fault
abbrev pub FileDisk : Type 0
FileDisk = DiskReport G64Fault

-- how many tracks are read: all, or none of a file that has a fault
abbrev pub read_count : Format → Option G64Fault → ℕ
read_count format (Some fault) = 0
read_count format None = length (tracks format)

-- what a file comes to: all its tracks, or nothing where it has a fault
pub record IsFileDisk (format : Format) (file : List ℕ) (o : FileDisk) : Type 0 where
  pub parts : List TrackPart
  pub each : AreFileParts format file parts
  pub many : length parts ≡ read_count format (first_fault format file)
  pub is : o ≡ report_over parts (first_fault format file)
