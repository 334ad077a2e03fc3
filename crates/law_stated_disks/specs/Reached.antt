-- Inputs at the bounds: for each image of each format there is a disk with as much padding as may
-- be, and with any bytes behind its streams; and for each of its tracks a stream whose first piece
-- has no sector, and whose second one has all.
use Rattle.std.specs.Prelude.{◌≡◌, ◌<◌, ◌≤◌, ℕ, ◌+◌, Bool, List, [], ◌∷◌, ◌++◌, drop, length}
use Rattle.std.specs.Prelude.{slice_index}
use Rattle.disk_recordings.specs.Members.{frame_cells, place_in_ring}
use Rattle.flux_engine.specs.Recordings.{track_at}
use Rattle.flux_engine.specs.Rings.{IsImage, nominal_of, ring_of}
use Rattle.law_stated_captures.specs.Reached.{slowing}
use Rattle.law_stated_captures.specs.Reaching.{IsAtBounds}
use Rattle.law_stated_captures.specs.Streams.{IsStatedSteadyErased, StatedErasedCapture}
use Rattle.law_stated_disks.specs.Disks.{KeptItsSpeed, StatedDisk}
use Rattle.law_stated_disks.specs.Lies.{LiesBetween}
use Rattle.phase_loop.specs.Pieces.{Piece}
use Rattle.sector_images.specs.Places.{IsSector, tracks}
use Rattle.sector_images.specs.declared.format.Format.{Format}

-- A disk of which each stream but the first has so many bytes of padding before it, and the last
-- one these bytes behind it. Each stream reaches the bounds of a capture, and its local periods
-- drift from a 64th of the nominal cell off the mean to a 45th.
pub record IsWideDisk (format : Format) (image : List ℕ) (many : ℕ → ℕ) (later : List ℕ) (index : ℕ)
    (late : ℕ → Bool) (x : List ℕ) : Type 0 where
  pub disk : StatedDisk format image x
  pub steady : KeptItsSpeed format image x disk
  pub padded : (k : ℕ) → k + 1 < length (tracks format)
      → disk.stand.begin (k + 1) ≡ disk.stand.begin k + length (disk.stream k) + many (k + 1)
  pub behind : (k : ℕ) → k + 1 ≡ length (tracks format)
      → drop (disk.stand.begin k + length (disk.stream k)) x ≡ later
  pub bounds : (k : ℕ) → k < length (tracks format) → (from : ℕ)
      × IsAtBounds (disk.stream k) (ring_of format image k) (nominal_of format k) from
      (slowing (nominal_of format k) (nominal_of format k)) (nominal_of format k) index late

-- 0 to 16 bytes before each, as one likes, and any behind; from any place of each ring, wherever
-- the turns lie and whichever transitions are late
abbrev pub DisksReachBounds : Type 0
DisksReachBounds = (format : Format) (image : List ℕ) (many : ℕ → ℕ) (later : List ℕ)
    (place index : ℕ) (late : ℕ → Bool)
    → IsImage format image
    → ((k : ℕ) → many k ≤ 16) → index < 2147483648
    → (x : List ℕ) × IsWideDisk format image many later index late x

-- A stream of track number n in two pieces: a first one of one transition, and a second one in
-- which each sector of the track lies whole. The drive kept its speed in both.
pub record IsLate (format : Format) (image : List ℕ) (n : ℕ) (x : List ℕ) : Type 0 where
  pub capture : StatedErasedCapture x (ring_of format image n) (nominal_of format n)
  pub steady : IsStatedSteadyErased x (ring_of format image n) (nominal_of format n) capture
  pub first : Piece
  pub second : Piece
  pub are : capture.pieces ≡ first ∷ second ∷ []
  pub single : length first.times ≡ 1
  pub whole : (sector : ℕ) → IsSector format (track_at format n) sector
      → LiesBetween (length (ring_of format image n))
      (place_in_ring format (track_at format n) sector) (frame_cells format) second.places
  pub out_of_band : slice_index x 0 ≡ 13

-- A stream of track number n in pieces of one transition each, as little as a capture may
-- have. The drive kept its speed.
pub record IsSpecks (format : Format) (image : List ℕ) (n : ℕ) (x : List ℕ) : Type 0 where
  pub capture : StatedErasedCapture x (ring_of format image n) (nominal_of format n)
  pub steady : IsStatedSteadyErased x (ring_of format image n) (nominal_of format n) capture
  pub single : (before : List Piece) (piece : Piece) (behind : List Piece)
      → before ++ piece ∷ behind ≡ capture.pieces → length piece.times ≡ 1
  pub out_of_band : slice_index x 0 ≡ 13

abbrev pub LatePiecesHaveSectors : Type 0
LatePiecesHaveSectors = (format : Format) (image : List ℕ) (n index : ℕ) → IsImage format image
    → n < length (tracks format) → index < 2147483648
    → (x : List ℕ) × IsLate format image n x

abbrev pub SpecksAreCaptures : Type 0
SpecksAreCaptures = (format : Format) (image : List ℕ) (n index : ℕ) → IsImage format image
    → n < length (tracks format) → index < 2147483648
    → (x : List ℕ) × IsSpecks format image n x
