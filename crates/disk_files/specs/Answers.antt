-- What writing an image as files may answer, and what that says of the image and of what is made.
use Rattle.std.specs.Prelude.{◌≡◌, ◌<◌, ◌≤◌, ◌⊎◌, ℕ, List, [], ◌∷◌, ◌++◌, length, option_map}
use Rattle.std.specs.Prelude.{Option, Some, None, Result, Ok, Err}
use Rattle.std.specs.Io.KnownBytes.{Consumes}
use Rattle.std.specs.List.{position_from}
use Rattle.std.specs.Option.{is_some}
use Rattle.file_maker.specs.Made.{Made}
use Rattle.file_maker.specs.Makes.{MakesIn, front_of, with_files}
use Rattle.flux_engine.specs.Writes.{IsNoImage, IsWholeImage}
use Rattle.sector_images.specs.Formats.{row}
use Rattle.sector_images.specs.Places.{tracks}
use Rattle.sector_images.specs.declared.format.Format.{Format}
use Rattle.track_shelf.specs.Files.{File, file_of}
use Rattle.disk_files.specs.Files.{DiskFolder, disk_file, disk_files, first_files}
use Rattle.disk_files.specs.declared.fault.FilesFault.{FilesFault}
use Rattle.disk_files.specs.declared.fault.FilesFault.TheVariants.{Exists, FileFault, FolderFault}
use Rattle.disk_files.specs.declared.fault.FilesFault.TheVariants.{ReadFault, WrongSize}

abbrev pub Answer : Type 0
Answer = Result (Unit {0}) FilesFault

-- the number of the format's first track whose file is in the folder, if one is
unfoldable pub first_there : List File → (folder : List ℕ) → Format → Option ℕ
first_there files folder format =
    position_from (λ track. is_some (file_of files folder track)) 0 (tracks format)

-- this is that number, where it is told what lies there
abbrev pub IsFirstThere : Option Made → DiskFolder → Option ℕ → Type 0
IsFirstThere made disk first =
    (told : Made) → made ≡ Some told → first_there told.files disk.folder disk.format ≡ first

-- These are the files of the tracks before number k, and nothing of its own, or a front
-- of it that is shorter than it.
abbrev pub IsCutAt : DiskFolder → (image : List ℕ) → (k : ℕ) → List File → Type 0
IsCutAt disk image k files =
    (files ≡ first_files disk image k)
    ⊎ ((n : ℕ) × (n < length (disk_file disk image k).bytes)
    × (files ≡ first_files disk image k ++ front_of n (disk_file disk image k) ∷ []))

-- the files of all tracks were made, or that of the track of this number failed
abbrev pub MakesFiles : DiskFolder → (image : List ℕ) → (made made' : Option Made)
    → Result (Unit {0}) ℕ → Type 0
MakesFiles disk image made made' (Ok _) =
    made' ≡ option_map (with_files (disk_files disk image)) made
MakesFiles disk image made made' (Err k) =
    (k < length (tracks disk.format)) × (files : List File) × IsCutAt disk image k files
    × (made' ≡ option_map (with_files files) made)

-- What the answer says of the bytes that were taken, and of what is made. No file of the
-- disk was there where one is made.
abbrev pub SaysOfFiles : DiskFolder → (taken : List ℕ) → (left' : Option (List ℕ))
    → (made made' : Option Made) → Answer → Type 0
SaysOfFiles disk taken left' made made' (Ok _) =
    IsWholeImage disk.format taken left' × IsFirstThere made disk None
    × MakesIn disk.folder (disk_files disk taken) made made'
SaysOfFiles disk taken left' made made' (Err (FileFault k)) =
    IsWholeImage disk.format taken left' × IsFirstThere made disk None
    × (k < length (tracks disk.format))
    × (files : List File) × IsCutAt disk taken k files × MakesIn disk.folder files made made'
SaysOfFiles disk taken left' made made' (Err FolderFault) =
    IsWholeImage disk.format taken left' × IsFirstThere made disk None × (made' ≡ made)
SaysOfFiles disk taken left' made made' (Err (Exists k)) =
    IsWholeImage disk.format taken left' × (k < length (tracks disk.format))
    × IsFirstThere made disk (Some k) × (made' ≡ made)
SaysOfFiles disk taken left' made made' (Err (WrongSize read wanted)) =
    IsNoImage disk.format taken left' × (read ≡ length taken)
    × (wanted ≡ (row disk.format).image_size) × (made' ≡ made)
SaysOfFiles disk taken left' made made' (Err ReadFault) =
    (length taken ≤ (row disk.format).image_size) × (made' ≡ made)

-- A call that writes an image as files: it took these bytes.
pub record WritesFiles (disk : DiskFolder) (left left' : Option (List ℕ)) (made made' : Option Made)
    (answer : Answer) : Type 0 where
  pub taken : List ℕ
  pub consumed : Consumes left left' taken
  pub says : SaysOfFiles disk taken left' made made' answer
