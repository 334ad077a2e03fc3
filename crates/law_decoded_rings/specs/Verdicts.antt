-- What the readings of a written track come to, where its cells were recovered in pieces.
use Rattle.std.specs.Prelude.{◌≡◌, ℕ, ◌+◌, ◌*◌, ◌<◌, ◌≤◌, Bool, Contains, List, [], ◌∷◌, drop}
use Rattle.std.specs.Prelude.{length, Option, Some, None, slice_get}
use Rattle.track_rings.specs.OwnSectors.{IsAloneWithin}
use Rattle.track_rings.specs.Rings.{LiesAt}
use Rattle.turn_merge.specs.Readings.{NotedReading, agreed, verdict}
use Rattle.turn_merge.specs.declared.verdict.Verdict.{Verdict}
use Rattle.turn_merge.specs.declared.verdict.Verdict.TheVariants.{Good, Contradictory, Bad, Missing}
use Rattle.law_decoded_rings.specs.Pieces.{IsCellOf, RingPiece, begin_of_piece}
use Rattle.law_decoded_rings.specs.Pieces.{cells_of_ring_pieces}
use Rattle.law_decoded_rings.specs.Written.{HasSector, WrittenTrack}

-- The readings are those of the cells: each good one is of a sector that stands at its place with
-- its bytes, and each sector that stands at a place has a good reading.
pub record AreReadingsOf (sector : List Bool → ℕ → List ℕ → Type 0) (cells : List Bool)
    (readings : List NotedReading) : Type 0 where
  pub stand : (r : NotedReading) (bytes : List ℕ) → Contains readings r → r.bytes ≡ Some bytes
      → sector (drop r.place.cell cells) r.sector bytes
  pub all : (place s : ℕ) (bytes : List ℕ) → sector (drop place cells) s bytes
      → (r : NotedReading) × Contains readings r × (r.sector ≡ s) × (r.bytes ≡ Some bytes)

-- the sector is good, and its data are these bytes
abbrev pub IsGoodWith : Verdict → Option (List ℕ) → List ℕ → Type 0
IsGoodWith (Good _ _ _) data_of bytes = data_of ≡ Some bytes
IsGoodWith (Contradictory _ _ _ _) data_of bytes = ⊥
IsGoodWith (Bad _ _) data_of bytes = ⊥
IsGoodWith Missing data_of bytes = ⊥

-- the sector is good with these bytes, or bad or missing with none; it is not contradictory
abbrev pub IsGoodWithOrLost : Verdict → Option (List ℕ) → List ℕ → Type 0
IsGoodWithOrLost (Good _ _ _) data_of bytes = data_of ≡ Some bytes
IsGoodWithOrLost (Contradictory _ _ _ _) data_of bytes = ⊥
IsGoodWithOrLost (Bad _ _) data_of bytes = data_of ≡ None
IsGoodWithOrLost Missing data_of bytes = data_of ≡ None

-- the sector's frame lies whole in piece number `index`, from the piece's cell number `place` on
pub record LiesInPiece (track : WrittenTrack) (pieces : List RingPiece)
    (sector index place : ℕ) : Type 0 where
  pub piece : RingPiece
  pub there : slice_get pieces index ≡ Some piece
  pub lies : LiesAt (length track.ring) (track.begin_of sector) track.frame_cells piece.from
      piece.count place

-- one place of the sector, with its whole frame, lies in one of the pieces
abbrev pub LiesInOnePiece : WrittenTrack → List RingPiece → ℕ → Type 0
LiesInOnePiece track pieces sector = (index place : ℕ) × LiesInPiece track pieces sector index place

-- What stands at a place of the cells stands there by cells of one piece alone, with zeros of
-- the erased stretches beside it.
pub record StandsInOnePieceWithin (zeros : ℕ) (Here : List Bool → Type 0) (pieces : List RingPiece)
    (cells : List Bool) (place : ℕ) : Type 0 where
  pub alone : IsAloneWithin zeros Here (drop place cells)
  pub index : ℕ
  pub only : (other at : ℕ) → place ≤ at → at < place + alone.end → IsCellOf pieces other at
      → other ≡ index

-- the same where what stands is unbroken
abbrev pub StandsInOnePiece : (List Bool → Type 0) → List RingPiece → List Bool → ℕ → Type 0
StandsInOnePiece Here pieces cells place = StandsInOnePieceWithin 8 Here pieces cells place

module _ (sector : List Bool → ℕ → List ℕ → Type 0) (track : WrittenTrack) where
  -- A sector that stands at a place of the cells of pieces stands by cells of one piece, which have
  -- no `zeros` zeros in a row, and has its own bytes.
  pub record StandsAsWrittenWithin (zeros : ℕ) (first : RingPiece)
      (later : List RingPiece) : Type 0 where
    pub sector_of_one : (place s : ℕ) (bytes : List ℕ)
        → sector (drop place (cells_of_ring_pieces track.ring first later)) s bytes
        → StandsInOnePieceWithin zeros (λ cells. sector cells s bytes) (first ∷ later)
        (cells_of_ring_pieces track.ring first later) place
    pub own_bytes : (place s : ℕ) (bytes : List ℕ)
        → sector (drop place (cells_of_ring_pieces track.ring first later)) s bytes
        → bytes ≡ track.bytes_of s
    pub whole_stands : (s index place : ℕ) → HasSector track s
        → LiesInPiece track (first ∷ later) s index place
        → sector
        (drop (begin_of_piece (first ∷ later) index + place)
        (cells_of_ring_pieces track.ring first later)) s (track.bytes_of s)

  -- over all readings of the cells of pieces
  pub record VerdictsAreRight (first : RingPiece) (later : List RingPiece)
      (readings : List NotedReading) : Type 0 where
    pub whole : (s : ℕ) → HasSector track s → LiesInOnePiece track (first ∷ later) s
        → IsGoodWith (verdict readings s) (agreed readings s) (track.bytes_of s)
    pub each : (s : ℕ) → HasSector track s
        → IsGoodWithOrLost (verdict readings s) (agreed readings s) (track.bytes_of s)

  -- A track that was recovered in pieces: a sector of which one place, with its whole frame, lies
  -- in one piece is good with its bytes; every other one is good with its bytes, bad or missing;
  -- none is contradictory, and no sector that stands has cells of two pieces.
  abbrev pub PiecesAreRightWithin : ℕ → Type 0
  PiecesAreRightWithin zeros =
      (first : RingPiece) (later : List RingPiece) → StandsAsWrittenWithin zeros first later
      × ((readings : List NotedReading)
      → AreReadingsOf sector (cells_of_ring_pieces track.ring first later) readings
      → VerdictsAreRight first later readings)

  -- the same where sectors that stand are unbroken
  abbrev pub StandsAsWritten : RingPiece → List RingPiece → Type 0
  StandsAsWritten first later = StandsAsWrittenWithin 8 first later

  abbrev pub PiecesAreRight : Type 0
  PiecesAreRight = PiecesAreRightWithin 8

  -- one piece of at least two rings has each sector's frame whole
  abbrev pub TwoRingsHaveSectors : Type 0
  TwoRingsHaveSectors =
      (piece : RingPiece) (s : ℕ) → 2 * length track.ring ≤ piece.count → HasSector track s
      → LiesInOnePiece track (piece ∷ []) s
