-- A sector lies whole in one piece of a captured track exactly where it lies between the first and the last place of one.
use Rattle.std.specs.Prelude.{◌≡◌, ◌<◌, ◌≤◌, ℕ, zero, suc, ◌+◌, ◌-◌, ◌%◌, All, Bool, List, [], ◌∷◌, ◌++◌, length, map, refl, slice_get, slice_index, Some}
use Rattle.std.proofs.Common.{arith, ap, sym, subst, ◌∙◌}
use Rattle.std.proofs.lemmas.List.Elements.{All-head, All-tail}
use Rattle.disk_recordings.specs.Members.{frame_cells, place_in_ring}
use Rattle.flux_engine.specs.Recordings.{track_at}
use Rattle.flux_engine.specs.Rings.{ring_of}
use Rattle.kryo_stream.specs.Stream.{indexes}
use Rattle.law_captured_disks.specs.Frames.{ring_piece, written_track}
use Rattle.law_decoded_rings.specs.Pieces.{RingPiece}
use Rattle.law_decoded_rings.specs.Verdicts.{LiesInOnePiece}
use Rattle.law_stated_captures.specs.Streams.{IsStatedPiece, StatedErasedCapture, first_mean, last_of}
use Rattle.law_stated_disks.specs.Laws.{SectorsLieInPieces}
use Rattle.law_stated_disks.specs.Lies.{LiesBetween, LiesInAPiece}
use Rattle.phase_loop.specs.Pieces.{Piece}
use Rattle.sector_images.specs.declared.format.Format.{Format}
use Rattle.track_rings.specs.Rings.{LiesAt}

-- from the first place to the last, and back
module _ (ring_cells begin cells : ℕ) (places : List ℕ) (up : slice_index places 0 ≤ last_of places) where
  abbrev first : ℕ
  first = slice_index places 0

  abbrev count : ℕ
  count = last_of places - first + 1

  at_place : (lies : LiesBetween ring_cells begin cells places) → LiesAt ring_cells begin cells first count (lies.place - first)
  at_place lies =
      let from = lies.from in
      let to = lies.to in
      let at : first + (lies.place - first) ≡ lies.place = omega (arith, from) in
      record { same = ap (λ (n : ℕ). n % ring_cells) at ∙ lies.repeated; whole = omega (arith, from, to, up) }

  between : (place : ℕ) → LiesAt ring_cells begin cells first count place → LiesBetween ring_cells begin cells places
  between place lies =
      let whole = lies.whole in
      record { place = first + place; repeated = lies.same; from = omega arith; to = omega (arith, whole, up) }

-- the places of a stated piece rise
module _ (mean : ℕ) (ring : List Bool) (nominal : ℕ) where
  rises : (piece : Piece) → IsStatedPiece mean ring nominal piece → (i : ℕ) → i < length piece.times → slice_index piece.places 0 ≤ slice_index piece.places i
  rises piece is zero within = omega arith
  rises piece is (suc i) within =
      let e : i + 1 ≡ suc i = omega arith in
      let before = rises piece is i (omega (arith, within)) in
      let next = subst (λ (n : ℕ). slice_index piece.places i < slice_index piece.places n) e (is.kept.rising i (omega (arith, within))) in
      omega (arith, before, next)

  is_up : (piece : Piece) → IsStatedPiece mean ring nominal piece → slice_index piece.places 0 ≤ last_of piece.places
  is_up piece is =
      let some = is.some in
      let each = is.kept.each_place in
      rises piece is (length piece.places - 1) (omega (arith, some, each))

  each_is : (before : List Piece) (piece : Piece) (behind : List Piece) → All (IsStatedPiece mean ring nominal) (before ++ piece ∷ behind) → IsStatedPiece mean ring nominal piece
  each_is [] piece behind all = All-head (IsStatedPiece mean ring nominal) piece behind all
  each_is (b ∷ before) piece behind all = each_is before piece behind (All-tail (IsStatedPiece mean ring nominal) b (before ++ piece ∷ behind) all)

-- a piece by its number, and by the pieces before and behind it
get_there : (before : List Piece) (piece : Piece) (behind : List Piece) → slice_get (map ring_piece (before ++ piece ∷ behind)) (length before) ≡ Some (ring_piece piece)
get_there [] piece behind = refl
get_there (b ∷ before) piece behind = get_there before piece behind

record Found (pieces : List Piece) (of : RingPiece) : Type 0 where
  pub before : List Piece
  pub piece : Piece
  pub behind : List Piece
  pub one : before ++ piece ∷ behind ≡ pieces
  pub is : ring_piece piece ≡ of

same_some : (a b : RingPiece) → Some a ≡ Some b → a ≡ b
same_some a b is = cc

no_piece : (of : RingPiece) → slice_get {X = RingPiece} [] 0 ≡ Some of → ⊥
no_piece of is = cc

found : (pieces : List Piece) (index : ℕ) (of : RingPiece) → slice_get (map ring_piece pieces) index ≡ Some of → Found pieces of
found [] index of is = absurd (no_piece of is)
found (piece ∷ pieces) zero of is =
    record { before = []; piece = piece; behind = pieces; one = refl; is = same_some (ring_piece piece) of is }
found (first ∷ pieces) (suc index) of is =
    let later = found pieces index of is in
    record { before = first ∷ later.before; piece = later.piece; behind = later.behind; one = ap (λ (ps : List Piece). first ∷ ps) later.one; is = later.is }

module _ (format : Format) (image x : List ℕ) (n sector nominal : ℕ) (stated : StatedErasedCapture x (ring_of format image n) nominal) where
  abbrev ring : List Bool
  ring = ring_of format image n

  abbrev mean : ℕ
  mean = first_mean (indexes x) (length ring)

  abbrev begin : ℕ
  begin = place_in_ring format (track_at format n) sector

  is_one : (before : List Piece) (piece : Piece) (behind : List Piece) → before ++ piece ∷ behind ≡ stated.pieces → slice_index piece.places 0 ≤ last_of piece.places
  is_one before piece behind one =
      is_up mean ring nominal piece (each_is mean ring nominal before piece behind (subst (All (IsStatedPiece mean ring nominal)) (sym one) stated.kept))

  in_one : LiesInAPiece format image n sector stated.pieces → LiesInOnePiece (written_track format image n) (map ring_piece stated.pieces) sector
  in_one lies = (
    length lies.before,
    lies.lies.place - slice_index lies.piece.places 0,
    record {
      piece = ring_piece lies.piece;
      there = ap (λ (ps : List Piece). slice_get (map ring_piece ps) (length lies.before)) (sym lies.one) ∙ get_there lies.before lies.piece lies.behind;
      lies = at_place (length ring) begin (frame_cells format) lies.piece.places (is_one lies.before lies.piece lies.behind lies.one) lies.lies;
    },
  )

  in_some : LiesInOnePiece (written_track format image n) (map ring_piece stated.pieces) sector → LiesInAPiece format image n sector stated.pieces
  in_some lies =
      let one = found stated.pieces lies.0 lies.2.piece lies.2.there in
      record {
        before = one.before;
        piece = one.piece;
        behind = one.behind;
        one = one.one;
        lies = between (length ring) begin (frame_cells format) one.piece.places (is_one one.before one.piece one.behind one.one) lies.1
            (subst (λ (p : RingPiece). LiesAt (length ring) begin (frame_cells format) p.from p.count lies.1) (sym one.is) lies.2.lies);
      }

pub sectors_lie : SectorsLieInPieces
sectors_lie format image x n sector capture stated same = (
  λ lies. subst (λ (ps : List Piece). LiesInOnePiece (written_track format image n) (map ring_piece ps) sector) same (in_one format image x n sector _ stated lies),
  λ lies. in_some format image x n sector _ stated (subst (λ (ps : List Piece). LiesInOnePiece (written_track format image n) (map ring_piece ps) sector) (sym same) lies),
)
