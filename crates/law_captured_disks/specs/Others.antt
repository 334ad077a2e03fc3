-- In the recovered cells of a captured track each header that a controller reads is that of one of
-- the track's sectors: no other stands there, and so none that has data.
use Rattle.std.specs.Prelude.{◌<◌, ℕ, List, length}
use Rattle.kryo_stream.specs.Stream.{indexes, times}
use Rattle.disk_recordings.specs.Members.{as_controllers_read, header_at, named_at}
use Rattle.flux_engine.specs.Captures.{Capture, ErasedCapture, IsSteady, IsSteadyErased}
use Rattle.flux_engine.specs.Recordings.{cells_by, track_at}
use Rattle.flux_engine.specs.Rings.{IsImage, nominal_of, ring_of}
use Rattle.frame_law.specs.Others.{HasNoOther}
use Rattle.sector_images.specs.Places.{tracks}
use Rattle.sector_images.specs.declared.format.Format.{Format}
use Rattle.turn_merge.specs.declared.clock.Clock.{Clock}
use Rattle.turn_merge.specs.declared.clock.Clock.TheVariants.{Following}

-- no other stands in the cells that a clock recovers of a stream of track number k
abbrev pub NoOtherIsRead : Clock → Format → ℕ → List ℕ → Type 0
NoOtherIsRead clock format k x =
    HasNoOther (named_at (as_controllers_read format))
    (header_at (as_controllers_read format) (track_at format k))
    (cells_by clock format (track_at format k) (times x) (indexes x))

-- From a stream that captures a track of an image, whole or erased in parts: by the clock that
-- follows the drive, and by either where the drive keeps its speed.
pub record CapturesHaveNoOthers : Type 0 where
  pub whole : (format : Format) (image x : List ℕ) (k : ℕ) → IsImage format image
      → k < length (tracks format)
      → Capture x (ring_of format image k) (nominal_of format k)
      → NoOtherIsRead Following format k x
  pub erased : (format : Format) (image x : List ℕ) (k : ℕ) → IsImage format image
      → k < length (tracks format)
      → ErasedCapture x (ring_of format image k) (nominal_of format k)
      → NoOtherIsRead Following format k x
  pub steady : (clock : Clock) (format : Format) (image x : List ℕ) (k : ℕ) → IsImage format image
      → k < length (tracks format)
      → (capture : Capture x (ring_of format image k) (nominal_of format k))
      → IsSteady x (ring_of format image k) (nominal_of format k) capture
      → NoOtherIsRead clock format k x
  pub steady_erased : (clock : Clock) (format : Format) (image x : List ℕ) (k : ℕ)
      → IsImage format image → k < length (tracks format)
      → (capture : ErasedCapture x (ring_of format image k) (nominal_of format k))
      → IsSteadyErased x (ring_of format image k) (nominal_of format k) capture
      → NoOtherIsRead clock format k x
