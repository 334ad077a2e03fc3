-- What is said of the sectors and of the pieces of captured disks.
use Rattle.std.specs.Prelude.{◌<◌, ℕ, List, ◌∷◌, length, map}
use Rattle.sector_images.specs.Places.{IsSector, tracks}
use Rattle.sector_images.specs.declared.format.Format.{Format}
use Rattle.turn_merge.specs.declared.verdict.Verdict.{Verdict}
use Rattle.turn_merge.specs.declared.verdict.Verdict.TheVariants.{Good, Contradictory, Bad, Missing}
use Rattle.law_decoded_rings.specs.Pieces.{RingPiece}
use Rattle.flux_engine.specs.Recordings.{track_at}
use Rattle.law_captured_disks.specs.Frames.{ring_piece}
use Rattle.law_captured_disks.specs.Inputs.{IsErasedDisk}

-- the sector is one of track number n
pub record IsSectorOf (format : Format) (n sector : ℕ) : Type 0 where
  pub track : n < length (tracks format)
  pub known : IsSector format (track_at format n) sector

-- the verdict is bad or missing
abbrev pub IsBadOrMissing : Verdict → Type 0
IsBadOrMissing (Good _ _ _) = ⊥
IsBadOrMissing (Contradictory _ _ _ _) = ⊥
IsBadOrMissing (Bad _ _) = Unit {0}
IsBadOrMissing Missing = Unit {0}

-- the pieces of track number n
abbrev pub pieces_of : (format : Format) (image x : List ℕ) → IsErasedDisk format image x → (n : ℕ)
    → n < length (tracks format) → List RingPiece
pieces_of format image x disk n known =
    ring_piece (disk.captured n known).first ∷ map ring_piece (disk.captured n known).later
