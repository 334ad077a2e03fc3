-- The inputs of which decoding and rescuing promise something, a second time: streams by their
-- places, each a stated capture.
use Rattle.std.specs.Prelude.{◌<◌, ℕ, List, length}
use Rattle.flux_engine.specs.Rings.{nominal_of, ring_of}
use Rattle.law_stated_captures.specs.Streams.{IsStatedSteady, IsStatedSteadyErased, StatedCapture}
use Rattle.law_stated_captures.specs.Streams.{StatedErasedCapture}
use Rattle.law_stated_disks.specs.Joined.{StandInOrder}
use Rattle.law_stated_disks.specs.Lies.{LiesInAPiece}
use Rattle.sector_images.specs.Places.{tracks}
use Rattle.sector_images.specs.declared.format.Format.{Format}

-- one stream for each track, in order, which captures the track's ring
pub record StatedDisk (format : Format) (image x : List ℕ) : Type 0 where
  pub stream : ℕ → List ℕ
  pub stand : StandInOrder (length (tracks format)) stream x
  pub each : (k : ℕ) → k < length (tracks format)
      → StatedCapture (stream k) (ring_of format image k) (nominal_of format k)

-- or captures it in pieces
pub record StatedErasedDisk (format : Format) (image x : List ℕ) : Type 0 where
  pub stream : ℕ → List ℕ
  pub stand : StandInOrder (length (tracks format)) stream x
  pub each : (k : ℕ) → k < length (tracks format)
      → StatedErasedCapture (stream k) (ring_of format image k) (nominal_of format k)

-- the drive of each kept its speed
abbrev pub KeptItsSpeed : (format : Format) (image x : List ℕ) → StatedDisk format image x → Type 0
KeptItsSpeed format image x disk = (k : ℕ) (known : k < length (tracks format))
    → IsStatedSteady (disk.stream k) (ring_of format image k) (nominal_of format k)
    (disk.each k known)

abbrev pub KeptItsSpeedErased : (format : Format) (image x : List ℕ)
    → StatedErasedDisk format image x → Type 0
KeptItsSpeedErased format image x disk =
    (k : ℕ) (known : k < length (tracks format))
    → IsStatedSteadyErased (disk.stream k) (ring_of format image k) (nominal_of format k)
    (disk.each k known)

-- the frame of a sector of track number n lies whole in one of its pieces
pub record HasWholeSector (format : Format) (image x : List ℕ)
    (disk : StatedErasedDisk format image x) (n sector : ℕ) : Type 0 where
  pub known : n < length (tracks format)
  pub lies : LiesInAPiece format image n sector (disk.each n known).pieces
