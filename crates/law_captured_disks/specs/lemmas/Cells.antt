-- The cells of the pieces of a captured track, by the parts of the ring that they carry.
use Rattle.std.specs.Prelude.{◌≡◌, Bool, false, List, [], ◌∷◌, ◌++◌, flat_map, map, replicate}
use Rattle.std.specs.Prelude.{refl}
use Rattle.std.proofs.Common.{ap}
use Rattle.law_decoded_rings.specs.Pieces.{ERASED_ZEROS, RingPiece, cells_of_ring_pieces}
use Rattle.law_decoded_rings.specs.Pieces.{piece_cells}
use Rattle.phase_loop.specs.Pieces.{Piece, cells_of_piece, cells_of_pieces}
use Rattle.law_captured_disks.specs.Frames.{ring_piece}

later_same : (ring : List Bool) (later : List Piece)
    → flat_map (λ (piece : Piece). replicate 31 false ++ cells_of_piece ring piece) later
    ≡ flat_map (λ (piece : RingPiece). replicate ERASED_ZEROS false ++ piece_cells ring piece)
    (map ring_piece later)
later_same ring [] = refl
later_same ring (piece ∷ later) =
    ap (λ (cells : List Bool). (replicate 31 false ++ cells_of_piece ring piece) ++ cells)
    (later_same ring later)

-- the cells of pieces of a ring
pub cells-same : (ring : List Bool) (first : Piece) (later : List Piece)
    → cells_of_pieces ring first later
    ≡ cells_of_ring_pieces ring (ring_piece first) (map ring_piece later)
cells-same ring first later =
    ap (λ (cells : List Bool). cells_of_piece ring first ++ cells) (later_same ring later)
