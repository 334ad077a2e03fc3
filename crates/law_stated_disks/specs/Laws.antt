-- The inputs of which decoding and rescuing promise something are the stated
-- ones, and there are no others.
use Rattle.std.specs.Prelude.{◌≡◌, ◌<◌, ◌↔◌, ℕ, List, ◌∷◌, length, map}
use Rattle.flux_engine.specs.Captures.{ErasedCapture, IsSteady, IsSteadyErased}
use Rattle.flux_engine.specs.Rings.{nominal_of, ring_of}
use Rattle.law_captured_disks.specs.Frames.{ring_piece, written_track}
use Rattle.law_captured_disks.specs.Headline.{pieces_of}
use Rattle.law_captured_disks.specs.Inputs.{AreJoined, IsCapturedDisk, IsErasedDisk}
use Rattle.law_decoded_rings.specs.Verdicts.{LiesInOnePiece}
use Rattle.law_stated_captures.specs.Streams.{StatedErasedCapture}
use Rattle.law_stated_disks.specs.Disks.{HasWholeSector, KeptItsSpeed, KeptItsSpeedErased}
use Rattle.law_stated_disks.specs.Disks.{StatedDisk, StatedErasedDisk}
use Rattle.law_stated_disks.specs.Joined.{StandInOrder}
use Rattle.law_stated_disks.specs.Lies.{LiesInAPiece}
use Rattle.sector_images.specs.Places.{tracks}
use Rattle.sector_images.specs.declared.format.Format.{Format}

-- streams are joined exactly where they stand in order
abbrev pub StreamsInOrderAreJoined : Type 0
StreamsInOrderAreJoined = (count : ℕ) (stream : ℕ → List ℕ) (x : List ℕ)
    → StandInOrder count stream x ↔ AreJoined count stream x

-- A sector of track number n lies whole in one piece of an erased capture exactly where it lies in
-- one of the stated pieces, which are the same.
abbrev pub SectorsLieInPieces : Type 0
SectorsLieInPieces = (format : Format) (image x : List ℕ) (n sector : ℕ)
    (capture : ErasedCapture x (ring_of format image n) (nominal_of format n))
    (stated : StatedErasedCapture x (ring_of format image n) (nominal_of format n))
    → stated.pieces ≡ capture.first ∷ capture.later
    → LiesInAPiece format image n sector stated.pieces
    ↔ LiesInOnePiece (written_track format image n)
    (ring_piece capture.first ∷ map ring_piece capture.later) sector

-- the two are one disk, of the same streams with the same local periods, and keep their speed alike
pub record IsSameDisk (format : Format) (image x : List ℕ) (stated : StatedDisk format image x)
    (disk : IsCapturedDisk format image x) : Type 0 where
  pub streams : disk.stream ≡ stated.stream
  pub periods : (k : ℕ) (known : k < length (tracks format))
      → (stated.each k known).periods ≡ (disk.captured k known).periods
  pub steady : KeptItsSpeed format image x stated
      ↔ ((k : ℕ) (known : k < length (tracks format))
      → IsSteady (disk.stream k) (ring_of format image k) (nominal_of format k)
      (disk.captured k known))

-- the same of the same pieces, in which the same sectors lie whole
pub record IsSameErasedDisk (format : Format) (image x : List ℕ)
    (stated : StatedErasedDisk format image x) (disk : IsErasedDisk format image x) : Type 0 where
  pub streams : disk.stream ≡ stated.stream
  pub pieces : (k : ℕ) (known : k < length (tracks format))
      → (stated.each k known).pieces ≡ (disk.captured k known).first ∷ (disk.captured k known).later
  pub steady : KeptItsSpeedErased format image x stated
      ↔ ((k : ℕ) (known : k < length (tracks format))
      → IsSteadyErased (disk.stream k) (ring_of format image k) (nominal_of format k)
      (disk.captured k known))
  pub whole : (n sector : ℕ) → HasWholeSector format image x stated n sector
      ↔ ((known : n < length (tracks format))
      × LiesInOnePiece (written_track format image n) (pieces_of format image x disk n known)
      sector)

-- each stated disk is a captured one
abbrev pub StatedDisksAreCaptured : Type 0
StatedDisksAreCaptured = (format : Format) (image x : List ℕ) (stated : StatedDisk format image x)
    → (disk : IsCapturedDisk format image x) × IsSameDisk format image x stated disk

-- and each captured disk is a stated one
abbrev pub CapturedDisksAreStated : Type 0
CapturedDisksAreStated = (format : Format) (image x : List ℕ) (disk : IsCapturedDisk format image x)
    → (stated : StatedDisk format image x) × IsSameDisk format image x stated disk

-- so it is with erased disks
abbrev pub StatedErasedDisksAreErased : Type 0
StatedErasedDisksAreErased =
    (format : Format) (image x : List ℕ) (stated : StatedErasedDisk format image x)
    → (disk : IsErasedDisk format image x) × IsSameErasedDisk format image x stated disk

abbrev pub ErasedDisksAreStated : Type 0
ErasedDisksAreStated = (format : Format) (image x : List ℕ) (disk : IsErasedDisk format image x)
    → (stated : StatedErasedDisk format image x) × IsSameErasedDisk format image x stated disk
