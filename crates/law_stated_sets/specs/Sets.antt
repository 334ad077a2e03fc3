-- The inputs of which decoding a set promises something, a second time: the streams by their
-- numbers in the input, each a stated capture.
use Rattle.std.specs.Prelude.{◌≡◌, ◌<◌, ◌*◌, ◌/◌, ℕ, List, length}
use Rattle.flux_engine.specs.Rings.{nominal_of, ring_of}
use Rattle.law_stated_captures.specs.Streams.{IsStatedSteady, IsStatedSteadyErased, StatedCapture}
use Rattle.law_stated_captures.specs.Streams.{StatedErasedCapture}
use Rattle.law_stated_disks.specs.Joined.{StandInOrder}
use Rattle.law_stated_disks.specs.Lies.{LiesInAPiece}
use Rattle.sector_images.specs.Places.{tracks}
use Rattle.sector_images.specs.declared.format.Format.{Format}

-- So many streams for each track. Stream number i, from 0, captures the
-- ring of track number i / count.
pub record StatedSet (format : Format) (count : ℕ) (image x : List ℕ) : Type 0 where
  pub stream : ℕ → List ℕ
  pub stand : StandInOrder (length (tracks format) * count) stream x
  pub each : (i : ℕ) → i < length (tracks format) * count
      → StatedCapture (stream i) (ring_of format image (i / count)) (nominal_of format (i / count))

-- or captures it in pieces
pub record StatedErasedSet (format : Format) (count : ℕ) (image x : List ℕ) : Type 0 where
  pub stream : ℕ → List ℕ
  pub stand : StandInOrder (length (tracks format) * count) stream x
  pub each : (i : ℕ) → i < length (tracks format) * count
      → StatedErasedCapture (stream i) (ring_of format image (i / count))
      (nominal_of format (i / count))

-- the drive of each kept its speed
abbrev pub KeptItsSpeed : (format : Format) (count : ℕ) (image x : List ℕ)
    → StatedSet format count image x → Type 0
KeptItsSpeed format count image x set = (i : ℕ) (below : i < length (tracks format) * count)
    → IsStatedSteady (set.stream i) (ring_of format image (i / count))
    (nominal_of format (i / count)) (set.each i below)

abbrev pub KeptItsSpeedErased : (format : Format) (count : ℕ) (image x : List ℕ)
    → StatedErasedSet format count image x → Type 0
KeptItsSpeedErased format count image x set = (i : ℕ) (below : i < length (tracks format) * count)
    → IsStatedSteadyErased (set.stream i) (ring_of format image (i / count))
    (nominal_of format (i / count)) (set.each i below)

-- Some stream of track number n, whichever of them it is, has the frame of the
-- sector whole in one of its pieces.
pub record HasWholeSector (format : Format) (count : ℕ) (image x : List ℕ)
    (set : StatedErasedSet format count image x) (n sector : ℕ) : Type 0 where
  pub i : ℕ
  pub below : i < length (tracks format) * count
  pub of : i / count ≡ n
  pub lies : LiesInAPiece format image (i / count) sector (set.each i below).pieces
