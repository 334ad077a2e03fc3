-- What is said of a dump that captures an image of a disk by numbers.
use Rattle.std.specs.Prelude.{◌≡◌, ◌⊎◌, ℕ, Contains, List, Option, Some, None, true}
use Rattle.dump_identity.specs.Candidates.{by_numbers}
use Rattle.dump_identity.specs.Outcomes.{Identified, IsIdentified}
use Rattle.dump_identity.specs.declared.finding.Finding.{Finding}
use Rattle.dump_reading.specs.Files.{ShelfNow}
use Rattle.dump_reading.specs.declared.totals.DumpTotals.{DumpTotals}
use Rattle.flux_base.specs.declared.track.TrackId.{TrackId}
use Rattle.flux_engine.specs.LoopProgress.{lost_count}
use Rattle.flux_engine.specs.Rings.{IsImage}
use Rattle.ibm_disks.specs.Disks.{IsDiskOf, rate_of, track_of_disk}
use Rattle.ibm_disks.specs.declared.word.DiskNumbers.{DiskNumbers}
use Rattle.law_numbered_dumps.specs.Called.{IsCapturedDump}
use Rattle.law_numbered_dumps.specs.Inputs.{HasNoSector, IsSteppedTo, all_tracks, on_dump}
use Rattle.law_read_dumps.specs.Said.{says_in}
use Rattle.sector_images.specs.Places.{IsTrack}
use Rattle.sector_images.specs.declared.format.Format.TheVariants.{Numbered}
use Rattle.told_disks.specs.Named.{is_covered}
use Rattle.told_disks.specs.declared.disks.NumberedDisk.{NumberedDisk}
use Rattle.told_disks.specs.declared.heads.NamedHeads.TheVariants.{Own}
use Rattle.track_shelf.specs.Files.{File}

-- The files capture the disk with an image's bytes, and no file in which another track lay by its
-- steps has a sector of its rate and size.
pub record IsCapturedAlone (dump : List ℕ) (files : List File) (disk : NumberedDisk)
    (image : List ℕ) : Type 0 where
  pub captured : IsCapturedDump dump files disk.stepping (Numbered disk.disk) image
  pub alone : (track : TrackId) → ¬ IsTrack (Numbered disk.disk) track
      → HasNoSector (rate_of disk.disk) (track_of_disk disk.disk).size
      (says_in (on_dump dump disk) files track 0)

-- every sector is good of those that a disk comes to, of which the dump has files
abbrev pub AreAllGood : Option DumpTotals → Type 0
AreAllGood None = ⊥
AreAllGood (Some totals) = totals.sectors.good ≡ totals.sectors.sectors

-- the disk is one of those that were tried, and every sector is good
pub record IsTriedGood (findings : List Finding) (disk : NumberedDisk) : Type 0 where
  pub finding : Finding
  pub tried : Contains findings finding
  pub candidate : finding.candidate ≡ by_numbers disk
  pub good : AreAllGood finding.totals

-- So it is with the disk of any numbers, where no file failed; or one that has a name covers them.
abbrev pub CapturedDisksAreNamed : Type 0
CapturedDisksAreNamed =
    (dump : List ℕ) (files : List File) (start now : ShelfNow) (o : Identified)
    (is : IsIdentified dump start now o) (numbers : DiskNumbers) (disk : NumberedDisk)
    (image : List ℕ)
    → start.told.files ≡ Some files → lost_count is.files.came ≡ 0 → lost_count is.files.again ≡ 0
    → IsDiskOf numbers disk.disk → IsSteppedTo disk.stepping disk.disk all_tracks
    → IsImage (Numbered disk.disk) image → IsCapturedAlone dump files disk image
    → IsTriedGood is.findings disk ⊎ (is_covered Own disk.stepping numbers ≡ true)
