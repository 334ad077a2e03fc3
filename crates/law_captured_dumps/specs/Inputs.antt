-- The dumps that a reader answers for: those whose streams capture the tracks of a disk, whole or
-- erased in parts, in files of KryoFlux streams or in SCP files, and others that are passed over.
use Rattle.std.specs.Prelude.{◌≡◌, ◌⊎◌, ℕ, ◌∷◌, ◌++◌, List, map, Option, Some, Result, Ok, true}
use Rattle.std.specs.Prelude.{is_some, option_and_then}
use Rattle.std.specs.List.{slice_get}
use Rattle.dump_reading.specs.Outcomes.{DumpDisk}
use Rattle.flux_engine.specs.Captures.{Capture, ErasedCapture, IsSteady, IsSteadyErased}
use Rattle.flux_engine.specs.Plans.{Streams}
use Rattle.flux_engine.specs.Recordings.{track_at}
use Rattle.flux_engine.specs.Rings.{nominal_of, ring_of}
use Rattle.law_captured_disks.specs.Frames.{ring_piece, written_track}
use Rattle.law_decoded_rings.specs.Pieces.{RingPiece}
use Rattle.law_decoded_rings.specs.Verdicts.{LiesInOnePiece}
use Rattle.scp_files.specs.declared.fault.ScpTrackFault.{ScpTrackFault}
use Rattle.sector_report.specs.declared.dump_lines.Passed.TheVariants.{Failed}
use Rattle.track_shelf.specs.Files.{File, dump_track}
use Rattle.track_shelf.specs.Stepping.{file_track}

-- what the dump of this number has of track number n: the bytes of its file, or of the stream that
-- its track of an SCP file stands for, or why that is refused
abbrev pub track_on : DumpDisk → List File → (n dump : ℕ)
    → Option (Result (List ℕ) ScpTrackFault)
track_on disk files n dump =
    option_and_then
    (λ name. dump_track files name (file_track disk.stepping (track_at disk.format n)))
    (slice_get disk.dumps dump)

-- it has bytes of it, and they begin with these
pub record Begins (disk : DumpDisk) (files : List File) (n dump : ℕ)
    (stream : List ℕ) : Type 0 where
  pub bytes : List ℕ
  pub there : track_on disk files n dump ≡ Some (Ok bytes)
  pub later : List ℕ
  pub is : bytes ≡ stream ++ later

-- They begin with a stream that captures the track's ring, which has the image's bytes in its
-- sectors, at the track's nominal cell.
pub record Captures (disk : DumpDisk) (files : List File) (image : List ℕ)
    (n dump : ℕ) : Type 0 where
  pub stream : List ℕ
  pub begins : Begins disk files n dump stream
  pub capture : Capture stream (ring_of disk.format image n) (nominal_of disk.format n)

-- The same with erased stretches.
pub record CapturesInPart (disk : DumpDisk) (files : List File) (image : List ℕ)
    (n dump : ℕ) : Type 0 where
  pub stream : List ℕ
  pub begins : Begins disk files n dump stream
  pub capture : ErasedCapture stream (ring_of disk.format image n) (nominal_of disk.format n)

-- the pieces of the ring that such a stream has
abbrev pub pieces_in : (disk : DumpDisk) (files : List File) (image : List ℕ) (n dump : ℕ)
    → CapturesInPart disk files image n dump → List RingPiece
pieces_in disk files image n dump c = ring_piece c.capture.first ∷ map ring_piece c.capture.later

-- A dump has a sector of track number n whole: its file captures the track; or it captures it in
-- part, and a place of the sector, with its whole frame, lies in one piece.
abbrev pub HasWhole : (disk : DumpDisk) (files : List File) (image : List ℕ) (n dump sector : ℕ)
    → Type 0
HasWhole disk files image n dump sector =
    Captures disk files image n dump
    ⊎ ((c : CapturesInPart disk files image n dump) × LiesInOnePiece (written_track disk.format image n) (pieces_in disk files image n dump c) sector)

-- its file failed as it was opened or read
abbrev pub HasFailed : Streams → (n dump : ℕ) → Type 0
HasFailed came n dump = (came n dump).passed ≡ Some Failed

-- of the streams that came, that of track number n in this dump is passed over: its file is not
-- there, or failed, or it is refused
abbrev pub IsPassedOver : Streams → (n dump : ℕ) → Type 0
IsPassedOver came n dump = is_some (came n dump).passed ≡ true

-- A dump's file captures track number n, whole or in part, and the drive kept
-- its speed; or it is passed over.
abbrev pub IsSteadyOrPassed : (disk : DumpDisk) → Streams
    → (files : List File) (image : List ℕ) (n dump : ℕ) → Type 0
IsSteadyOrPassed disk came files image n dump =
    ((c : Captures disk files image n dump)
    × IsSteady c.stream (ring_of disk.format image n) (nominal_of disk.format n) c.capture)
    ⊎ ((c : CapturesInPart disk files image n dump)
    × IsSteadyErased c.stream (ring_of disk.format image n) (nominal_of disk.format n)
    c.capture)
    ⊎ IsPassedOver came n dump
