-- The files of a disk, as they are made.
use Rattle.std.specs.Prelude.{◌≡◌, ℕ, List, option_map, Option, Result, Ok, Err}
use Rattle.std.specs.Io.KnownBytes.{Appends}
use Rattle.file_maker.specs.Made.{Made}
use Rattle.file_maker.specs.Makes.{MakesFile, MakesIn, with_files}
use Rattle.flux_base.specs.Outside.{AppendsPart}
use Rattle.flux_base.specs.declared.outside.Failed.{Failed}
use Rattle.track_shelf.specs.Files.{File}
use Rattle.disk_archive.specs.Kept.{Kept, all_of, file_of, files_of, text_of}
use Rattle.disk_archive.specs.Names.{before_of}
use Rattle.disk_archive.specs.declared.fault.ArchiveFault.{ArchiveFault}
use Rattle.disk_archive.specs.declared.fault.ArchiveFault.TheVariants.{FileFault, FolderFault}
use Rattle.disk_archive.specs.declared.fault.ArchiveFault.TheVariants.{OutputFault}
use Rattle.disk_archive.specs.declared.names.KeptFile.{KeptFile}
use Rattle.disk_archive.specs.declared.names.KeptFile.TheVariants.{Summary}

-- A file was not made, or a front of it was: those before it are whole, where this says that some
-- files are made.
abbrev pub CutAt : (Makes : List File → (made made' : Option Made) → Type 0) → (folder : List ℕ)
    → Kept → KeptFile → (made made' : Option Made) → Type 0
CutAt Makes folder kept file made made' =
    (mid : Option Made) × Makes (files_of folder kept (before_of file)) made mid
    × ((failed : Failed) × MakesFile (file_of folder kept file) mid made' (Err failed))

-- files are made, in a folder that is there
abbrev pub MakesMore : List File → (made made' : Option Made) → Type 0
MakesMore files made made' = made' ≡ option_map (with_files files) made

abbrev pub MakesFiles : (folder : List ℕ) → Kept → (made made' : Option Made)
    → Result (Unit {0}) KeptFile → Type 0
MakesFiles folder kept made made' (Ok _) = MakesMore (all_of folder kept) made made'
MakesFiles folder kept made made' (Err file) = CutAt MakesMore folder kept file made made'

-- The folder and all files are made, and then the summary is written. The fault of a file leaves those
-- before it whole, and none behind it.
abbrev pub WritesKept : (folder : List ℕ) → Kept → (made made' : Option Made)
    → (line line' : Option (List ℕ)) → Result (Unit {0}) ArchiveFault → Type 0
WritesKept folder kept made made' line line' (Ok _) =
    MakesIn folder (all_of folder kept) made made' × Appends line line' (text_of kept Summary)
WritesKept folder kept made made' line line' (Err FolderFault) = (made' ≡ made) × (line' ≡ line)
WritesKept folder kept made made' line line' (Err (FileFault file)) =
    CutAt (MakesIn folder) folder kept file made made' × (line' ≡ line)
WritesKept folder kept made made' line line' (Err OutputFault) =
    MakesIn folder (all_of folder kept) made made' × AppendsPart line line' (text_of kept Summary)
WritesKept folder kept made made' line line' (Err _) = ⊥
