-- What dumps have of a disk's tracks is what is stated, and nothing else.
use Rattle.std.specs.Prelude.{◌≡◌, ◌<◌, ◌⊎◌, ◌↔◌, ℕ, List, length, Some, None, Ok}
use Rattle.dump_reading.specs.Outcomes.{DumpDisk}
use Rattle.flux_engine.specs.Plans.{Streams}
use Rattle.law_captured_dumps.specs.Inputs.{Begins, HasFailed, HasWhole, IsPassedOver}
use Rattle.law_captured_dumps.specs.Inputs.{IsSteadyOrPassed, track_on}
use Rattle.law_read_dumps.specs.Said.{AreOfFiles}
use Rattle.law_stated_dumps.specs.Dumps.{HasStream, HasTrack, IsFileOf, IsWholeIn, KeptItsSpeedIn}
use Rattle.law_stated_dumps.specs.Dumps.{LacksFile, SaysNothing, file_on}
use Rattle.sector_images.specs.Places.{tracks}
use Rattle.track_shelf.specs.Files.{File}

-- the file of a track in a dump, and that there is none, and the bytes that it has of the track
pub record FilesAreStated : Type 0 where
  pub there : (disk : DumpDisk) (files : List File) (n dump : ℕ) (file : File)
      → IsFileOf disk files n dump file ↔ (file_on disk files n dump ≡ Some file)
  pub missing : (disk : DumpDisk) (files : List File) (n dump : ℕ)
      → LacksFile disk files n dump ↔ (file_on disk files n dump ≡ None)
  pub track : (disk : DumpDisk) (files : List File) (n dump : ℕ) (bytes : List ℕ)
      → HasTrack disk files n dump bytes ↔ (track_on disk files n dump ≡ Some (Ok bytes))

-- a track whose bytes begin with a stream
abbrev pub StreamsOfFilesAreStated : Type 0
StreamsOfFilesAreStated = (disk : DumpDisk) (files : List File) (n dump : ℕ) (stream : List ℕ)
    → HasStream disk files n dump stream ↔ Begins disk files n dump stream

-- a dump has a sector whole exactly where the sector is whole in it
abbrev pub WholeSectorsAreStated : Type 0
WholeSectorsAreStated = (disk : DumpDisk) (files : List File) (image : List ℕ) (n dump sector : ℕ)
    → n < length (tracks disk.format)
    → IsWholeIn disk files image n dump sector ↔ HasWhole disk files image n dump sector

-- of the streams that came, where each is what its file says or failed, those are passed over whose
-- file is missing, damaged or failed
abbrev pub PassedFilesAreStated : Type 0
PassedFilesAreStated =
    (disk : DumpDisk) (came : Streams) (files : List File) → AreOfFiles disk came files
    → (n dump : ℕ) → n < length (tracks disk.format) → dump < length disk.dumps
    → (SaysNothing disk files n dump ⊎ HasFailed came n dump) ↔ IsPassedOver came n dump

-- and what is asked of the other dumps is one of these
abbrev pub SteadyDumpsAreStated : Type 0
SteadyDumpsAreStated =
    (disk : DumpDisk) (came : Streams) (files : List File) → AreOfFiles disk came files
    → (image : List ℕ) (n dump : ℕ) → n < length (tracks disk.format) → dump < length disk.dumps
    → (KeptItsSpeedIn disk files image n dump ⊎ SaysNothing disk files n dump
    ⊎ HasFailed came n dump)
    ↔ IsSteadyOrPassed disk came files image n dump
