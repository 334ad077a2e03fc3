-- The cells of a track that was recovered in pieces of its ring, with
-- erased stretches between them.
use Rattle.std.specs.Prelude.{◌≡◌, ℕ, ◌+◌, ◌<◌, ◌≤◌, Bool, false, List, ◌++◌, flat_map, replicate}
use Rattle.std.specs.Prelude.{slice_get, sum_by, take, Some}
use Rattle.track_rings.specs.Rings.{stretch}

-- a part of the endlessly repeated ring: the place of the ring at which it
-- begins, and how many cells it has
pub record RingPiece : Type 0 where
  pub from : ℕ
  pub count : ℕ

-- how many zeros stand for an erased stretch, whatever its length was
abbrev pub ERASED_ZEROS : ℕ
ERASED_ZEROS = 31

abbrev pub piece_cells : List Bool → RingPiece → List Bool
piece_cells ring piece = stretch ring piece.from piece.count

-- the cells of the pieces, one after another, with the zeros of an erased stretch between two
abbrev pub cells_of_ring_pieces : List Bool → RingPiece → List RingPiece → List Bool
cells_of_ring_pieces ring first later =
    piece_cells ring first
    ++ flat_map (λ piece. replicate ERASED_ZEROS false ++ piece_cells ring piece) later

-- the place at which piece number `index` begins in these cells
abbrev pub begin_of_piece : List RingPiece → ℕ → ℕ
begin_of_piece pieces index = sum_by (λ piece. piece.count + ERASED_ZEROS) (take index pieces)

-- the cell at a place is one of piece number `index`
pub record IsCellOf (pieces : List RingPiece) (index place : ℕ) : Type 0 where
  pub piece : RingPiece
  pub there : slice_get pieces index ≡ Some piece
  pub least : begin_of_piece pieces index ≤ place
  pub most : place < begin_of_piece pieces index + piece.count
