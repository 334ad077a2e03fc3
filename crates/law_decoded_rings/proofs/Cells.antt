-- Cells of pieces, taken apart at their erased stretches.
use Rattle.std.specs.Prelude.{◌≡◌, ℕ, zero, suc, ◌+◌, ◌<◌, ◌≤◌, Bool, false, List, [], ◌∷◌, ◌++◌, length, take, drop, flat_map, replicate, slice_get, Some}
use Rattle.std.proofs.Common.{ap, ◌∙◌, arith, append_assoc}
use Rattle.std.proofs.lemmas.List.Sums.{sum_by-cons}
use Rattle.std.proofs.Math.Seq.{drop-append-add}
use Rattle.track_rings.specs.lemmas.Cuts.{length-stretch}
use Rattle.law_decoded_rings.specs.Pieces.{ERASED_ZEROS, RingPiece, begin_of_piece, cells_of_ring_pieces, piece_cells}

-- the cells after those of the first piece
pub behind_first : (ring : List Bool) (first next : RingPiece) (more : List RingPiece)
    → cells_of_ring_pieces ring first (next ∷ more)
    ≡ piece_cells ring first ++ (replicate ERASED_ZEROS false ++ cells_of_ring_pieces ring next more)
behind_first ring first next more =
    ap (λ (cells : List Bool). piece_cells ring first ++ cells)
    (append_assoc (replicate ERASED_ZEROS false) (piece_cells ring next)
    (flat_map (λ (piece : RingPiece). replicate ERASED_ZEROS false ++ piece_cells ring piece) more))

pub begin-suc : (first : RingPiece) (later : List RingPiece) (index : ℕ)
    → begin_of_piece (first ∷ later) (suc index) ≡ first.count + ERASED_ZEROS + begin_of_piece later index
begin-suc first later index = sum_by-cons (λ (piece : RingPiece). piece.count + ERASED_ZEROS) first (take index later)

-- a piece ends before a later one begins
pub begins-after : (pieces : List RingPiece) (i j : ℕ) (piece : RingPiece) → slice_get pieces i ≡ Some piece → i < j
    → begin_of_piece pieces i + (piece.count + ERASED_ZEROS) ≤ begin_of_piece pieces j
begins-after [] i j piece there before = absurd (cc)
begins-after (first ∷ later) zero zero piece there before = absurd (omega arith)
begins-after (first ∷ later) zero (suc j) piece there before =
    let same : first.count ≡ piece.count = ap (λ (p : RingPiece). p.count) (let e : first ≡ piece = cc in e) in
    omega (arith, begin-suc first later j, same)
begins-after (first ∷ later) (suc i) zero piece there before = absurd (omega arith)
begins-after (first ∷ later) (suc i) (suc j) piece there before =
    omega (arith, begin-suc first later i, begin-suc first later j, begins-after later i j piece there (omega arith))

-- the cells of a piece stand at its begin
pub piece-there : (ring : List Bool) (first : RingPiece) (later : List RingPiece) (index : ℕ) (piece : RingPiece) → slice_get (first ∷ later) index ≡ Some piece
    → (rest : List Bool) × (drop (begin_of_piece (first ∷ later) index) (cells_of_ring_pieces ring first later) ≡ piece_cells ring piece ++ rest)
piece-there ring first later zero piece there =
    let e : first ≡ piece = cc in (
      flat_map (λ (q : RingPiece). replicate ERASED_ZEROS false ++ piece_cells ring q) later,
      ap (λ (q : RingPiece). piece_cells ring q ++ flat_map (λ (r : RingPiece). replicate ERASED_ZEROS false ++ piece_cells ring r) later) e,
    )
piece-there ring first [] (suc index) piece there = absurd (cc)
piece-there ring first (next ∷ more) (suc index) piece there =
    let later = piece-there ring next more index piece there in
    let zeros : List Bool = replicate ERASED_ZEROS false in
    let size : length (piece_cells ring first) ≡ first.count = length-stretch ring first.from first.count in
    let e : begin_of_piece (first ∷ next ∷ more) (suc index) ≡ length (piece_cells ring first) + (31 + begin_of_piece (next ∷ more) index) =
    omega (arith, begin-suc first (next ∷ more) index, size) in (
      later.0,
      ap (λ (n : ℕ). drop n (cells_of_ring_pieces ring first (next ∷ more))) e
          ∙ ap (drop (length (piece_cells ring first) + (31 + begin_of_piece (next ∷ more) index))) (behind_first ring first next more)
          ∙ drop-append-add (piece_cells ring first) (zeros ++ cells_of_ring_pieces ring next more) (31 + begin_of_piece (next ∷ more) index)
          ∙ drop-append-add zeros (cells_of_ring_pieces ring next more) (begin_of_piece (next ∷ more) index)
          ∙ later.1,
    )
