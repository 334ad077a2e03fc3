-- Where a sector lies whole in the pieces of a captured track, by places of the repeated ring.
use Rattle.std.specs.Prelude.{◌≡◌, ◌≤◌, ℕ, ◌+◌, ◌%◌, List, ◌∷◌, ◌++◌, length, slice_index}
use Rattle.disk_recordings.specs.Members.{frame_cells, place_in_ring}
use Rattle.flux_engine.specs.Recordings.{track_at}
use Rattle.flux_engine.specs.Rings.{ring_of}
use Rattle.law_stated_captures.specs.Streams.{last_of}
use Rattle.phase_loop.specs.Pieces.{Piece}
use Rattle.sector_images.specs.declared.format.Format.{Format}

-- Of a frame of so many cells, which begins at this place of the ring, some repetition lies from
-- the first of these places to the last, both with it.
pub record LiesBetween (ring_cells begin cells : ℕ) (places : List ℕ) : Type 0 where
  pub place : ℕ
  pub repeated : place % ring_cells ≡ begin
  pub from : slice_index places 0 ≤ place
  pub to : place + cells ≤ last_of places + 1

-- So it is with the frame of a sector of track number n and one of these pieces, whichever it is.
pub record LiesInAPiece (format : Format) (image : List ℕ) (n sector : ℕ)
    (pieces : List Piece) : Type 0 where
  pub before : List Piece
  pub piece : Piece
  pub behind : List Piece
  pub one : before ++ piece ∷ behind ≡ pieces
  pub lies : LiesBetween (length (ring_of format image n))
      (place_in_ring format (track_at format n) sector) (frame_cells format) piece.places
