-- What is found of a dump that captures an image of a disk by numbers.
use Rattle.std.specs.Prelude.{◌≡◌, ◌⊎◌, ◌<◌, ◌≤◌, ℕ, Bool, Contains, List, is_some, length, true}
use Rattle.flux_base.specs.declared.track.TrackId.{TrackId}
use Rattle.flux_engine.specs.Plans.{Seen}
use Rattle.flux_engine.specs.Recordings.{track_at}
use Rattle.flux_engine.specs.Rings.{IsImage}
use Rattle.ibm_disks.specs.Disks.{IsDiskOf, rate_of, track_of_disk}
use Rattle.ibm_disks.specs.declared.rate.Rate.{Rate}
use Rattle.ibm_disks.specs.declared.sector_size.SectorSize.{SectorSize}
use Rattle.ibm_disks.specs.declared.word.DiskNumbers.{DiskNumbers}
use Rattle.law_captured_dumps.specs.Inputs.{CapturesInPart}
use Rattle.law_read_dumps.specs.Said.{says_on}
use Rattle.sector_images.specs.Places.{IsTrack, tracks}
use Rattle.sector_images.specs.declared.format.Format.TheVariants.{Numbered}
use Rattle.told_disks.specs.Named.{is_covered}
use Rattle.told_disks.specs.declared.disks.NumberedDisk.{NumberedDisk}
use Rattle.told_disks.specs.declared.heads.NamedHeads.TheVariants.{Own}
use Rattle.track_shelf.specs.Files.{File}
use Rattle.law_numbered_dumps.specs.Inputs.{AreToldBy, CapturesSome, HasNoOtherSector}
use Rattle.law_numbered_dumps.specs.Inputs.{HasNoSector, IsQuarter, IsSteppedTo, all_tracks}
use Rattle.law_numbered_dumps.specs.Inputs.{on_dump}

-- A disk of these numbers is among those that the files tell, or one that has a name covers them.
abbrev pub IsFoundOrCovered : List NumberedDisk → DiskNumbers → NumberedDisk → Type 0
IsFoundOrCovered disks numbers disk =
    Contains disks disk ⊎ (is_covered Own disk.stepping numbers ≡ true)

-- So it is with the disk of any numbers where all of its tracks are whole.
abbrev pub CapturedDisksAreFound : Type 0
CapturedDisksAreFound =
    (dump : List ℕ) (files : List File) (disks : List NumberedDisk) (numbers : DiskNumbers)
    (disk : NumberedDisk) (image : List ℕ)
    → AreToldBy dump files disks → IsDiskOf numbers disk.disk
    → IsSteppedTo disk.stepping disk.disk all_tracks → IsImage (Numbered disk.disk) image
    → CapturesSome dump files disk image all_tracks → IsFoundOrCovered disks numbers disk

-- a disk with so many cylinders and heads
abbrev pub with_extent : NumberedDisk → (cylinders heads : ℕ) → NumberedDisk
with_extent disk cylinders heads = record {
  stepping = disk.stepping;
  disk = record {
    cylinders = cylinders;
    heads = heads;
    rate = rate_of disk.disk;
    track = track_of_disk disk.disk;
  };
}

-- It is found with its rate, its sectors and their size, and with no more cylinders and heads than
-- it has: as far as its whole tracks reach, or further.
pub record IsFoundInPart (disks : List NumberedDisk) (numbers : DiskNumbers) (disk : NumberedDisk)
    (whole : TrackId → Bool) : Type 0 where
  pub cylinders : ℕ
  pub heads : ℕ
  pub fewer_cylinders : cylinders ≤ numbers.cylinders
  pub fewer_heads : heads ≤ numbers.heads
  pub reach : (track : TrackId) → IsTrack (Numbered disk.disk) track → whole track ≡ true
      → (track.cylinder < cylinders) × (track.head < heads)
  pub found : IsFoundOrCovered disks (record numbers { cylinders = cylinders; heads = heads })
      (with_extent disk cylinders heads)

-- So it is where a quarter is.
abbrev pub QuartersOfDisksAreFound : Type 0
QuartersOfDisksAreFound =
    (dump : List ℕ) (files : List File) (disks : List NumberedDisk) (numbers : DiskNumbers)
    (disk : NumberedDisk) (image : List ℕ) (whole : TrackId → Bool)
    → AreToldBy dump files disks → IsDiskOf numbers disk.disk
    → IsSteppedTo disk.stepping disk.disk whole → IsImage (Numbered disk.disk) image
    → CapturesSome dump files disk image whole → IsQuarter disk.disk whole
    → IsFoundInPart disks numbers disk whole

-- A file that is not there, or is refused, has no sector.
abbrev pub PassedFilesHaveNoSector : Type 0
PassedFilesHaveNoSector = (rate : Rate) (size : SectorSize) (says : Seen)
    → is_some says.passed ≡ true → HasNoSector rate size says

-- One that captures a track of a disk in part, beside erased stretches, has none but the track's.
abbrev pub ErasedFilesHaveNoOtherSector : Type 0
ErasedFilesHaveNoOtherSector =
    (dump : List ℕ) (files : List File) (disk : NumberedDisk) (image : List ℕ) (n : ℕ)
    → IsImage (Numbered disk.disk) image → n < length (tracks (Numbered disk.disk))
    → CapturesInPart (on_dump dump disk) files image n 0
    → HasNoOtherSector disk.disk (track_at (Numbered disk.disk) n)
    (says_on (on_dump dump disk) files n 0)
