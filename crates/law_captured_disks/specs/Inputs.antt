-- The inputs that a decoder answers for: the streams of a disk's tracks, as a drive captures them
-- that keeps within the bounds of disturbance.
use Rattle.std.specs.Prelude.{◌≡◌, ◌<◌, ℕ, List, [], ◌++◌, flat_map, length}
use Rattle.std.specs.List.{range_with_len}
use Rattle.kryo_stream.specs.Joined.{MayStandBefore}
use Rattle.sector_images.specs.Places.{tracks}
use Rattle.sector_images.specs.declared.format.Format.{Format}
use Rattle.flux_engine.specs.Captures.{Capture, ErasedCapture}
use Rattle.flux_engine.specs.Rings.{IsImage, nominal_of, ring_of, streams_of}

-- The input is so many streams, one after another, and then any bytes. Before each stream but
-- the first, padding may stand.
pub record AreJoined (count : ℕ) (stream : ℕ → List ℕ) (x : List ℕ) : Type 0 where
  pub padding : ℕ → List ℕ
  pub later : List ℕ
  pub joined : x ≡ flat_map (λ k. padding k ++ stream k) (range_with_len 0 count) ++ later
  pub first : padding 0 ≡ []
  pub padded : (k : ℕ) → k < count → MayStandBefore (padding k) (stream k)

-- A captured disk: for each track of the format a stream that captures the track's ring, which has
-- the image's bytes in its sectors, at the track's nominal cell.
pub record IsCapturedDisk (format : Format) (image x : List ℕ) : Type 0 where
  pub stream : ℕ → List ℕ
  pub joined : AreJoined (length (tracks format)) stream x
  pub captured : (k : ℕ) → k < length (tracks format)
      → Capture (stream k) (ring_of format image k) (nominal_of format k)

-- A captured disk with erased stretches on any of its tracks.
pub record IsErasedDisk (format : Format) (image x : List ℕ) : Type 0 where
  pub stream : ℕ → List ℕ
  pub joined : AreJoined (length (tracks format)) stream x
  pub captured : (k : ℕ) → k < length (tracks format)
      → ErasedCapture (stream k) (ring_of format image k) (nominal_of format k)

-- what is written of an image is a captured disk of it
abbrev pub WritesCapturedDisks : Type 0
WritesCapturedDisks = (format : Format) (image : List ℕ) → IsImage format image
    → IsCapturedDisk format image (streams_of format image)
