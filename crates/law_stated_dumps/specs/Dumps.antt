-- What dumps have of a disk's tracks, a second time: files by their paths, a stream by the bytes
-- with which a file begins, or that a track of an SCP file stands for, captures and sectors by the
-- stated numbers.
use Rattle.std.specs.Prelude.{◌≡◌, ◌≢◌, ◌<◌, ◌≤◌, ◌⊎◌, ℕ, All, true, false, List, ◌∷◌, ◌++◌, length}
use Rattle.std.specs.Prelude.{slice_get, slice_index, option_and_then, Option, Some, None, Ok}
use Rattle.dump_reading.specs.Outcomes.{DumpDisk}
use Rattle.flux_base.specs.declared.track.TrackId.{TrackId}
use Rattle.flux_engine.specs.Recordings.{track_at}
use Rattle.flux_engine.specs.Rings.{nominal_of, ring_of}
use Rattle.kryo_stream.specs.Stream.{first_fault}
use Rattle.law_stated_captures.specs.Streams.{IsStatedSteady, IsStatedSteadyErased, StatedCapture}
use Rattle.law_stated_captures.specs.Streams.{StatedErasedCapture}
use Rattle.law_stated_disks.specs.Lies.{LiesInAPiece}
use Rattle.scp_files.specs.Disks.{scp_track}
use Rattle.track_shelf.specs.Files.{File, file_at}
use Rattle.track_shelf.specs.Names.{is_scp, path_text}
use Rattle.track_shelf.specs.Stepping.{file_track}

-- the track of the drive on which track number n lies
abbrev pub lies_on : DumpDisk → (n : ℕ) → TrackId
lies_on disk n = file_track disk.stepping (track_at disk.format n)

-- the path of the file of track number n in the dump of this name: of an SCP file its own
abbrev pub path_in : DumpDisk → (name : List ℕ) → (n : ℕ) → List ℕ
path_in disk name n = path_text name (lies_on disk n)

-- that file, if it is there
abbrev pub file_on : DumpDisk → List File → (n dump : ℕ) → Option File
file_on disk files n dump =
    option_and_then (λ name. file_at files (path_in disk name n)) (slice_get disk.dumps dump)

-- This is the file of track number n in the dump of this number: the first
-- of all files that has the path.
pub record IsFileOf (disk : DumpDisk) (files : List File) (n dump : ℕ) (file : File) : Type 0 where
  pub name : List ℕ
  pub named : slice_get disk.dumps dump ≡ Some name
  pub path : file.path ≡ path_in disk name n
  pub before : List File
  pub behind : List File
  pub lies : before ++ file ∷ behind ≡ files
  pub none_before : All (λ other. other.path ≢ path_in disk name n) before

-- The dump has no such file.
abbrev pub LacksFile : DumpDisk → List File → (n dump : ℕ) → Type 0
LacksFile disk files n dump = (name : List ℕ) → slice_get disk.dumps dump ≡ Some name
    → All (λ other. other.path ≢ path_in disk name n) files

-- the bytes begin with these, and any may stand behind them
pub record BeginWith (bytes front : List ℕ) : Type 0 where
  pub long : length front ≤ length bytes
  pub same : (i : ℕ) → i < length front → slice_index bytes i ≡ slice_index front i

-- A file has these bytes of track number n: all that it has; or if it is an SCP file, those of the
-- stream that its track stands for.
abbrev pub HasBytes : DumpDisk → (name : List ℕ) → (n : ℕ) → File → (bytes : List ℕ) → Type 0
HasBytes disk name n file bytes =
    ((is_scp name ≡ false) × (bytes ≡ file.bytes))
    ⊎ ((is_scp name ≡ true) × (scp_track file.bytes (lies_on disk n) ≡ Some (Ok bytes)))

-- The dump has these bytes of the track.
pub record HasTrack (disk : DumpDisk) (files : List File) (n dump : ℕ)
    (bytes : List ℕ) : Type 0 where
  pub file : File
  pub is : IsFileOf disk files n dump file
  pub has : HasBytes disk is.name n file bytes

-- They begin with this stream.
pub record HasStream (disk : DumpDisk) (files : List File) (n dump : ℕ)
    (stream : List ℕ) : Type 0 where
  pub bytes : List ℕ
  pub has : HasTrack disk files n dump bytes
  pub begins : BeginWith bytes stream

-- A sector of track number n is whole in the dump: its bytes begin with a stream
-- that captures the track's ring, or captures it in pieces, in one of which,
-- whichever it is, the sector's frame lies.
pub record IsWholeIn (disk : DumpDisk) (files : List File) (image : List ℕ)
    (n dump sector : ℕ) : Type 0 where
  pub stream : List ℕ
  pub has : HasStream disk files n dump stream
  pub whole : StatedCapture stream (ring_of disk.format image n) (nominal_of disk.format n)
      ⊎ ((capture : StatedErasedCapture stream (ring_of disk.format image n)
      (nominal_of disk.format n))
      × LiesInAPiece disk.format image n sector capture.pieces)

-- The dump's bytes begin with a stream that captures the ring, whole or in pieces,
-- and the drive kept its speed.
pub record KeptItsSpeedIn (disk : DumpDisk) (files : List File) (image : List ℕ)
    (n dump : ℕ) : Type 0 where
  pub stream : List ℕ
  pub has : HasStream disk files n dump stream
  pub kept
      : ((capture : StatedCapture stream (ring_of disk.format image n) (nominal_of disk.format n))
      × IsStatedSteady stream (ring_of disk.format image n) (nominal_of disk.format n) capture)
      ⊎ ((capture : StatedErasedCapture stream (ring_of disk.format image n)
      (nominal_of disk.format n))
      × IsStatedSteadyErased stream (ring_of disk.format image n) (nominal_of disk.format n)
      capture)

-- The dump's track is damaged: what its bytes begin with is no stream without a fault.
pub record IsDamaged (disk : DumpDisk) (files : List File) (n dump : ℕ) : Type 0 where
  pub bytes : List ℕ
  pub has : HasTrack disk files n dump bytes
  pub fault : first_fault bytes ≢ None

-- The dump is an SCP file that has no such track, or whose track stands for no stream.
pub record LacksTrack (disk : DumpDisk) (files : List File) (n dump : ℕ) : Type 0 where
  pub file : File
  pub is : IsFileOf disk files n dump file
  pub scp : is_scp is.name ≡ true
  pub none : (bytes : List ℕ) → scp_track file.bytes (lies_on disk n) ≢ Some (Ok bytes)

-- it is missing or damaged
abbrev pub SaysNothing : DumpDisk → List File → (n dump : ℕ) → Type 0
SaysNothing disk files n dump =
    LacksFile disk files n dump ⊎ LacksTrack disk files n dump ⊎ IsDamaged disk files n dump
