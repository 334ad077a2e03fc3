-- The dumps of which a disk is found by its numbers: files whose streams capture its tracks, and no
-- other that has a sector as it has.
use Rattle.std.specs.Prelude.{◌≡◌, ◌≤◌, ◌<◌, ℕ, ◌*◌, Bool, true, false, List, [], ◌∷◌, count_by}
use Rattle.std.specs.Prelude.{length, Some}
use Rattle.dump_numbers.specs.Found.{AreByNumbers, files_of}
use Rattle.dump_numbers.specs.Sets.{FILES, HasNamed}
use Rattle.dump_reading.specs.DumpStreams.{AreOfDumps}
use Rattle.dump_reading.specs.Outcomes.{DumpDisk}
use Rattle.dump_reading.specs.declared.looks.Looks.TheVariants.{Always}
use Rattle.flux_base.specs.declared.track.TrackId.{TrackId}
use Rattle.flux_engine.specs.Captures.{IsSteady}
use Rattle.flux_engine.specs.LoopProgress.{lost_count}
use Rattle.flux_engine.specs.Plans.{Seen}
use Rattle.flux_engine.specs.Recordings.{track_at}
use Rattle.flux_engine.specs.Rings.{nominal_of, ring_of}
use Rattle.flux_engine.specs.declared.plan.Clocks.TheVariants.{Both}
use Rattle.ibm_disks.specs.Disks.{cylinders_of, rate_of, track_of_disk}
use Rattle.ibm_disks.specs.declared.disk.IbmDisk.{IbmDisk}
use Rattle.ibm_disks.specs.declared.rate.Rate.{Rate}
use Rattle.ibm_disks.specs.declared.rate.Rate.TheVariants.{High, HighAt360}
use Rattle.ibm_disks.specs.declared.sector_size.SectorSize.{SectorSize}
use Rattle.law_captured_dumps.specs.Inputs.{Captures}
use Rattle.law_read_dumps.specs.Said.{says_in}
use Rattle.sector_images.specs.Places.{IsTrack, tracks}
use Rattle.sector_images.specs.declared.format.Format.TheVariants.{Numbered}
use Rattle.told_disks.specs.declared.disks.NumberedDisk.{NumberedDisk}
use Rattle.told_disks.specs.declared.heads.NamedHeads.TheVariants.{Own}
use Rattle.track_rings.specs.Rings.{IsSectorNumber}
use Rattle.track_shelf.specs.declared.stepping.Stepping.TheVariants.{Single, Double}
use Rattle.track_shelf.specs.Files.{File}
use Rattle.track_shelf.specs.Stepping.{MOST_DOUBLE_CYLINDERS}
use Rattle.track_shelf.specs.declared.stepping.Stepping.{Stepping}

-- These disks are told by what came of a dump's files, none of which failed.
pub record AreToldBy (dump : List ℕ) (files : List File)
    (disks : List NumberedDisk) : Type 0 where
  pub came : List Seen
  pub all : FILES ≤ length came
  pub of_files : AreOfDumps (files_of dump) (Some files) came
  pub none_failed : lost_count came ≡ 0
  pub told : AreByNumbers came disks

-- a disk, as it is read of one dump
abbrev pub on_dump : (dump : List ℕ) → NumberedDisk → DumpDisk
on_dump dump disk = record {
  stepping = disk.stepping;
  dumps = dump ∷ [];
  format = Numbered disk.disk;
  clocks = Both;
  looks = Always;
}

-- Two steps of the drive for a cylinder are looked at where they lead to a whole track beyond the
-- first cylinder, and a drive that makes them reaches 42.
abbrev pub IsSteppedTo : Stepping → IbmDisk → (whole : TrackId → Bool) → Type 0
IsSteppedTo Single disk whole = Unit {0}
IsSteppedTo Double disk whole =
    (cylinders_of disk ≤ MOST_DOUBLE_CYLINDERS)
    × ((track : TrackId) × IsTrack (Numbered disk) track × (1 ≤ track.cylinder)
    × (whole track ≡ true))

-- two rates have one cell, so that the drive's speed alone tells of which of them data are
abbrev pub SharesCell : Rate → Type 0
SharesCell High = Unit {0}
SharesCell HighAt360 = Unit {0}
SharesCell rate = ⊥

-- what a file says has no sector of a rate and a size: no header with whole data behind it, of
-- whatever track
abbrev pub HasNoSector : Rate → SectorSize → Seen → Type 0
HasNoSector rate size says = (own : TrackId) (number : ℕ) → ¬ HasNamed Own rate says own size number

-- it has none of a disk's rate and size but those of a track of the disk
abbrev pub HasNoOtherSector : IbmDisk → (track : TrackId) → Seen → Type 0
HasNoOtherSector disk track says = (own : TrackId) (number : ℕ)
    → HasNamed Own (rate_of disk) says own (track_of_disk disk).size number
    → (own ≡ track)
    × IsSectorNumber (track_of_disk disk).first_sector (track_of_disk disk).sectors number

-- The file of track number n of a disk begins with a stream that captures it with an image's bytes,
-- by a drive that keeps its speed where that has to tell the rate.
pub record CapturesTrack (dump : List ℕ) (files : List File) (disk : NumberedDisk)
    (image : List ℕ) (n : ℕ) : Type 0 where
  pub captures : Captures (on_dump dump disk) files image n 0
  pub steady : SharesCell (rate_of disk.disk)
      → IsSteady captures.stream (ring_of (Numbered disk.disk) image n)
      (nominal_of (Numbered disk.disk) n) captures.capture

-- The files of a disk's whole tracks capture them, those of its others are damaged or not there,
-- and no file in which another track lay by these steps has a sector of the disk's rate and size.
pub record CapturesSome (dump : List ℕ) (files : List File) (disk : NumberedDisk) (image : List ℕ)
    (whole : TrackId → Bool) : Type 0 where
  pub captures : (n : ℕ) → n < length (tracks (Numbered disk.disk))
      → whole (track_at (Numbered disk.disk) n) ≡ true → CapturesTrack dump files disk image n
  pub damaged : (track : TrackId) → IsTrack (Numbered disk.disk) track → whole track ≡ false
      → HasNoOtherSector disk.disk track (says_in (on_dump dump disk) files track 0)
  pub alone : (track : TrackId) → ¬ IsTrack (Numbered disk.disk) track
      → HasNoSector (rate_of disk.disk) (track_of_disk disk.disk).size
      (says_in (on_dump dump disk) files track 0)

-- a quarter of a disk's tracks at least is whole
abbrev pub IsQuarter : IbmDisk → (whole : TrackId → Bool) → Type 0
IsQuarter disk whole =
    length (tracks (Numbered disk)) ≤ 4 * count_by whole (tracks (Numbered disk))

-- all are
abbrev pub all_tracks : TrackId → Bool
all_tracks track = true
