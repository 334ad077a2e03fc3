-- Sets of which one capture of each track alone has sectors, whichever it is.
use Rattle.std.specs.Prelude.{◌≡◌, ◌≢◌, ◌<◌, ◌*◌, ◌/◌, ◌%◌, ℕ, List, ◌∷◌, ◌++◌, length}
use Rattle.flux_engine.specs.Recordings.{track_at}
use Rattle.flux_engine.specs.Rings.{IsImage}
use Rattle.law_stated_disks.specs.Lies.{LiesInAPiece}
use Rattle.law_stated_sets.specs.Sets.{KeptItsSpeedErased, StatedErasedSet}
use Rattle.phase_loop.specs.Pieces.{Piece}
use Rattle.sector_images.specs.Places.{IsSector, tracks}
use Rattle.sector_images.specs.declared.format.Format.{Format}

-- Of each track the capture of this number, from 0, has each sector whole in a
-- piece, which is not its first one; and the pieces of all others have one
-- transition each. The drives kept their speed.
pub record HasOneWhole (format : Format) (count whole : ℕ) (image x : List ℕ) : Type 0 where
  pub set : StatedErasedSet format count image x
  pub steady : KeptItsSpeedErased format count image x set
  pub has : (i : ℕ) (below : i < length (tracks format) * count) → i % count ≡ whole → (sector : ℕ)
      → IsSector format (track_at format (i / count)) sector
      → (lies : LiesInAPiece format image (i / count) sector (set.each i below).pieces)
      × (length lies.before ≡ 1)
  pub single : (i : ℕ) (below : i < length (tracks format) * count) → i % count ≢ whole
      → (before : List Piece) (piece : Piece) (behind : List Piece)
      → before ++ piece ∷ behind ≡ (set.each i below).pieces → length piece.times ≡ 1

abbrev pub SetsReachBounds : Type 0
SetsReachBounds = (format : Format) (count whole : ℕ) (image : List ℕ) (index : ℕ)
    → IsImage format image → whole < count → index < 2147483648
    → (x : List ℕ) × HasOneWhole format count whole image x
