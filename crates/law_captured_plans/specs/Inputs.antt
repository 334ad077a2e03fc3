-- The inputs that a reader by a plan answers for: one or several captures of each of a disk's
-- tracks, each as a drive makes it that keeps within the bounds of disturbance.
use Rattle.std.specs.Prelude.{◌<◌, ℕ, ◌+◌, ◌*◌, List, ◌∷◌, length, map}
use Rattle.sector_images.specs.Places.{tracks}
use Rattle.sector_images.specs.declared.format.Format.{Format}
use Rattle.law_decoded_rings.specs.Pieces.{RingPiece}
use Rattle.law_decoded_rings.specs.Verdicts.{LiesInOnePiece}
use Rattle.flux_engine.specs.Captures.{Capture, ErasedCapture, IsSteady, IsSteadyErased}
use Rattle.flux_engine.specs.Rings.{nominal_of, ring_of}
use Rattle.law_captured_disks.specs.Frames.{ring_piece, written_track}
use Rattle.law_captured_disks.specs.Inputs.{AreJoined}

-- A captured set: for each track of the format so many streams, the captures of a track one
-- after another. Each of them captures the track's ring, which has the image's bytes in its
-- sectors, at the track's nominal cell.
pub record IsCapturedSet (format : Format) (count : ℕ) (image x : List ℕ) : Type 0 where
  pub stream : ℕ → List ℕ
  pub joined : AreJoined (length (tracks format) * count) stream x
  pub captured : (k q : ℕ) → k < length (tracks format) → q < count → Capture (stream (k * count + q)) (ring_of format image k) (nominal_of format k)

-- the drive of each of them keeps the speed that its first turn tells
abbrev pub IsSteadySet : (format : Format) (count : ℕ) (image x : List ℕ)
    → IsCapturedSet format count image x → Type 0
IsSteadySet format count image x set = (k q : ℕ) (known : k < length (tracks format)) (low : q < count)
    → IsSteady (set.stream (k * count + q)) (ring_of format image k) (nominal_of format k)
    (set.captured k q known low)

-- A captured set with erased stretches in any of its streams.
pub record IsErasedSet (format : Format) (count : ℕ) (image x : List ℕ) : Type 0 where
  pub stream : ℕ → List ℕ
  pub joined : AreJoined (length (tracks format) * count) stream x
  pub captured : (k q : ℕ) → k < length (tracks format) → q < count
      → ErasedCapture (stream (k * count + q)) (ring_of format image k) (nominal_of format k)

-- the drive of each of them keeps its speed in each piece
abbrev pub IsSteadyErasedSet : (format : Format) (count : ℕ) (image x : List ℕ)
    → IsErasedSet format count image x → Type 0
IsSteadyErasedSet format count image x set =
    (k q : ℕ) (known : k < length (tracks format)) (low : q < count)
    → IsSteadyErased (set.stream (k * count + q)) (ring_of format image k) (nominal_of format k)
    (set.captured k q known low)

-- the pieces of capture number q of track number n
abbrev pub pieces_of_capture : (format : Format) (count : ℕ) (image x : List ℕ)
    → IsErasedSet format count image x → (n q : ℕ) → n < length (tracks format) → q < count
    → List RingPiece
pieces_of_capture format count image x set n q known low =
    ring_piece (set.captured n q known low).first
    ∷ map ring_piece (set.captured n q known low).later

-- one place of a sector of track number n, with its whole frame, lies in one piece
-- of one of the track's captures
pub record LiesInACapture (format : Format) (count : ℕ) (image x : List ℕ)
    (set : IsErasedSet format count image x) (n sector : ℕ) : Type 0 where
  pub known : n < length (tracks format)
  pub capture : ℕ
  pub low : capture < count
  pub lies : LiesInOnePiece (written_track format image n)
      (pieces_of_capture format count image x set n capture known low) sector
