-- What the files come to that are written of an image, where they are read as a dump.
use Rattle.std.specs.Prelude.{◌≡◌, ◌≤◌, ◌<◌, ℕ, true, List, [], ◌∷◌, ◌++◌, length, None, Some}
use Rattle.dump_reading.specs.Outcomes.{DumpDisk, DumpsRead, IsDumpsRead, plan_of}
use Rattle.dump_reading.specs.declared.looks.Looks.{Looks}
use Rattle.flux_engine.specs.Captures.{IsSteady}
use Rattle.flux_engine.specs.Rings.{IsImage, nominal_of, ring_of}
use Rattle.flux_engine.specs.declared.plan.Clocks.{Clocks}
use Rattle.law_captured_disks.specs.Headline.{IsSectorOf}
use Rattle.law_captured_plans.specs.Headline.{IsReadWell}
use Rattle.law_captured_dumps.specs.Inputs.{Captures, HasFailed}
use Rattle.law_read_dumps.specs.Lines.{line_number}
use Rattle.law_read_dumps.specs.Said.{as_planned, came_in}
use Rattle.sector_images.specs.Places.{tracks}
use Rattle.track_shelf.specs.Files.{File}
use Rattle.track_shelf.specs.Names.{is_folder}
use Rattle.track_shelf.specs.declared.stepping.Stepping.TheVariants.{Single}
use Rattle.disk_files.specs.Answers.{first_there}
use Rattle.disk_files.specs.Files.{DiskFolder, MOST_VERSION, disk_files}

-- the folder alone as a dump
abbrev pub dump_of : DiskFolder → Clocks → Looks → DumpDisk
dump_of target clocks looks =
    record { stepping = Single; dumps = target.folder ∷ []; format = target.format; clocks = clocks; looks = looks }

-- An image can be written there and read again: the version is short, the folder's name is not that
-- of a track's file or of an SCP file, and of the files that were there none is one of the disk's.
pub record CanBeWritten (target : DiskFolder) (before : List File) : Type 0 where
  pub short : length target.version ≤ MOST_VERSION
  pub a_folder : is_folder target.folder ≡ true
  pub none_there : first_there before target.folder target.format ≡ None

-- with the files that are written of an image behind those that were there
abbrev pub files_with : DiskFolder → (before : List File) → (image : List ℕ) → List File
files_with target before image = before ++ disk_files target image

-- These files have the file of each track, which captures it, and the drive kept its speed.
abbrev pub AreCaptured : DiskFolder → List File → (image : List ℕ) → Type 0
AreCaptured target files image =
    (clocks : Clocks) (looks : Looks) (n : ℕ) → n < length (tracks target.format)
    → (c : Captures (dump_of target clocks looks) files image n 0)
    × IsSteady c.stream (ring_of target.format image n) (nominal_of target.format n) c.capture

-- Each sector of what is read of these files is good with its own bytes, where its track's file
-- did not fail.
abbrev pub AreReadWell : DiskFolder → List File → (image : List ℕ) → Type 0
AreReadWell target files image = (clocks : Clocks) (looks : Looks) (o : DumpsRead)
    → (read : IsDumpsRead (dump_of target clocks looks) (Some files) o)
    → (n sector : ℕ) → IsSectorOf target.format n sector
    → ¬ HasFailed (came_in read) n 0
    → IsReadWell (plan_of (dump_of target clocks looks)) target.format image (came_in read)
    (as_planned o) n sector
    (line_number (dump_of target clocks looks) (came_in read) read.others n sector)

-- So it is of the files that are written of an image.
abbrev pub WrittenFilesCapture : Type 0
WrittenFilesCapture = (target : DiskFolder) (before : List File) (image : List ℕ)
    → IsImage target.format image → CanBeWritten target before
    → AreCaptured target (files_with target before image) image

abbrev pub WrittenDumpsAreReadWell : Type 0
WrittenDumpsAreReadWell = (target : DiskFolder) (before : List File) (image : List ℕ)
    → IsImage target.format image → CanBeWritten target before
    → AreReadWell target (files_with target before image) image
