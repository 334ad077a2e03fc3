-- What stands in the cells of pieces stands in one of them, and has the bytes that were written.
use Rattle.std.specs.Prelude.{◌≡◌, ℕ, ◌+◌, ◌-◌, ◌<◌, ◌≤◌, Bool, false, List, ◌∷◌, ◌++◌, length, take, drop}
use Rattle.std.proofs.Common.{ap, sym, subst, ◌∙◌, arith, inl, inr, length-drop}
use Rattle.std.proofs.lemmas.Bool.{cases_lt}
use Rattle.std.proofs.lemmas.List.{drop-append-le, drop-drop, take-append-drop, take-append-le, take-replicate, take-take}
use Rattle.law_decoded_rings.specs.Pieces.{IsCellOf, RingPiece, begin_of_piece, cells_of_ring_pieces, piece_cells}
use Rattle.law_decoded_rings.specs.Verdicts.{LiesInPiece, StandsAsWrittenWithin, StandsInOnePieceWithin}
use Rattle.track_rings.specs.lemmas.Cuts.{length-stretch}
use Rattle.track_rings.specs.OwnSectors.{IsAloneWithin, NoZeros, between_zeros}
use Rattle.law_decoded_rings.specs.Written.{HasSector, IsReadWithin, WrittenTrack}
use Rattle.law_decoded_rings.proofs.Cells.{begins-after, piece-there}
use Rattle.law_decoded_rings.proofs.Locating.{Located, locate}

-- Cells after a place, counted from the front, without so many zeros in a row: there are no more zeros either.
no_zeros-from : (few many : ℕ) (cells : List Bool) (place count : ℕ) → few ≤ many → NoZeros few (drop place cells) 0 count
    → NoZeros many cells place (place + count)
no_zeros-from few many cells place count less none at least most zeros =
    let e : place + (at - place) ≡ at = omega (arith, least) in
    none (at - place) (omega arith) (omega (arith, least, most, less))
    (ap (take few) (drop-drop (at - place) place cells ∙ ap (λ (n : ℕ). drop n cells) e)
    ∙ sym (take-take few many (drop at cells) less) ∙ ap (take few) zeros ∙ take-replicate few many false less)

-- what depends on its own cells stands in all cells that begin with these
stands_too : (Here : List Bool → Type 0) (cells others : List Bool) {zeros : ℕ} (alone : IsAloneWithin zeros Here cells) → take alone.end others ≡ take alone.end cells → Here others
stands_too Here cells others alone same =
    subst Here
    (ap (λ (front : List Bool). front ++ drop alone.end others) (sym same) ∙ take-append-drop alone.end others)
    (alone.alone (drop alone.end others))

module _ (zeros : ℕ) (few : zeros ≤ 31) (track : WrittenTrack) (first : RingPiece) (later : List RingPiece) where
  abbrev cells : List Bool
  cells = cells_of_ring_pieces track.ring first later

  module _ (Here : List Bool → Type 0) (place : ℕ) (alone : IsAloneWithin zeros Here (drop place cells)) where
    -- the piece by whose cells it stands
    pub of_piece : Located track.ring 0 first later place alone.end
    of_piece =
        let size = length-drop place cells in
        locate track.ring 0 first later place alone.end (omega arith) alone.some (no_zeros-from zeros 31 cells place alone.end few alone.unbroken)
        (omega (arith, size, alone.within, alone.some))

    -- it stands there in that piece between zeros
    pub in_piece : (found : Located track.ring 0 first later place alone.end)
        → Here (drop found.offset (between_zeros track.ring found.zeros found.piece.from found.piece.count found.after))
    in_piece found = stands_too Here (drop place cells) _ alone found.same

    one_piece : (found : Located track.ring 0 first later place alone.end) (other at : ℕ) → place ≤ at → at < place + alone.end
        → IsCellOf (first ∷ later) other at → other ≡ found.index
    one_piece found other at least most cell =
        elim (cases_lt other found.index) [
          | inl before ↦ absurd (
              let order = begins-after (first ∷ later) other found.index cell.piece cell.there before in
              omega (arith, order, cell.most, found.at, found.few, least))
          | inr not_before ↦ elim (cases_lt found.index other) [
            | inl behind ↦ absurd (
                let order = begins-after (first ∷ later) found.index other found.piece found.there behind in
                omega (arith, order, cell.least, found.most, most))
            | inr not_behind ↦ omega (arith, not_before, not_behind)
          ]
        ]

    pub in_one : StandsInOnePieceWithin zeros Here (first ∷ later) cells place
    in_one = record { alone = alone; index = of_piece.index; only = one_piece of_piece }

  module _ (sector : List Bool → ℕ → List ℕ → Type 0) (read : IsReadWithin zeros sector track) where
    own : (place s : ℕ) (bytes : List ℕ) → sector (drop place cells) s bytes → bytes ≡ track.bytes_of s
    own place s bytes here =
        let alone = read.alone (drop place cells) s bytes here in
        let found = of_piece (λ (others : List Bool). sector others s bytes) place alone in
        read.own s bytes found.zeros found.piece.from found.piece.count found.after found.offset
        (in_piece (λ (others : List Bool). sector others s bytes) place alone found)

    whole : (s index place : ℕ) → HasSector track s → LiesInPiece track (first ∷ later) s index place
        → sector (drop (begin_of_piece (first ∷ later) index + place) cells) s (track.bytes_of s)
    whole s index place known lies =
        let here : List Bool = piece_cells track.ring lies.piece in
        let there = piece-there track.ring first later index lies.piece lies.there in
        let stands = read.stands s lies.piece.from lies.piece.count place known lies.lies in
        let alone = read.alone (drop place here) s (track.bytes_of s) stands in
        let size : length here ≡ lies.piece.count = length-stretch track.ring lies.piece.from lies.piece.count in
        let cut : drop (begin_of_piece (first ∷ later) index + place) cells ≡ drop place here ++ there.0 =
        sym (drop-drop place (begin_of_piece (first ∷ later) index) cells) ∙ ap (drop place) there.1
        ∙ drop-append-le place here there.0 (omega (arith, size, lies.lies.whole)) in
        stands_too (λ (others : List Bool). sector others s (track.bytes_of s)) (drop place here) _ alone (ap (take alone.end) cut ∙ take-append-le alone.end (drop place here) there.0 alone.within)

    pub stands_as_written : StandsAsWrittenWithin sector track zeros first later
    stands_as_written = record {
      sector_of_one = λ place s bytes here.
          in_one (λ (others : List Bool). sector others s bytes) place (read.alone (drop place cells) s bytes here);
      own_bytes = own;
      whole_stands = whole;
    }
