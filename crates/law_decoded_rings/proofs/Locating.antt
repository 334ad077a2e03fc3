-- Cells without 31 zeros in a row lie in one piece and the zeros beside it.
use Rattle.std.specs.Prelude.{◌≡◌, ℕ, suc, ◌+◌, ◌-◌, ◌<◌, ◌≤◌, Bool, false, List, [], ◌∷◌, ◌++◌, length, take, drop, replicate, slice_get, Some, refl}
use Rattle.std.proofs.Common.{ap, sym, subst, ◌∙◌, arith, inl, inr, append_assoc, length-append, length-drop}
use Rattle.std.proofs.lemmas.Bool.{cases_lt}
use Rattle.std.proofs.lemmas.List.{drop-append-le, length-replicate, take-append-le}
use Rattle.std.proofs.Math.Seq.{drop-append-add}
use Rattle.track_rings.specs.lemmas.Cuts.{length-stretch}
use Rattle.track_rings.specs.Rings.{stretch}
use Rattle.law_decoded_rings.specs.Pieces.{RingPiece, begin_of_piece, cells_of_ring_pieces, piece_cells}
use Rattle.track_rings.specs.OwnSectors.{NoZeros, between_zeros}
use Rattle.law_decoded_rings.proofs.Cells.{begin-suc, behind_first}

-- the cells of pieces after so many zeros
abbrev pub behind_zeros : List Bool → ℕ → RingPiece → List RingPiece → List Bool
behind_zeros ring zeros first later = replicate zeros false ++ cells_of_ring_pieces ring first later

-- so many cells from a place on are those from another place on in one piece between zeros
pub record Located (ring : List Bool) (before : ℕ) (first : RingPiece) (later : List RingPiece) (place count : ℕ) : Type 0 where
  pub index : ℕ
  pub piece : RingPiece
  pub there : slice_get (first ∷ later) index ≡ Some piece
  pub zeros : ℕ
  pub after : ℕ
  pub offset : ℕ
  pub same : take count (drop offset (between_zeros ring zeros piece.from piece.count after)) ≡ take count (drop place (behind_zeros ring before first later))
  pub few : zeros ≤ 31
  pub at : place + zeros ≡ before + begin_of_piece (first ∷ later) index + offset
  pub most : place + count ≤ before + begin_of_piece (first ∷ later) index + piece.count + 31

all_zeros : (rest : List Bool) → take 31 (drop 0 (replicate 31 false ++ rest)) ≡ replicate 31 false
all_zeros rest = refl

-- what lies after the first piece
after_first : (ring : List Bool) (before : ℕ) (first next : RingPiece) (more : List RingPiece) (offset : ℕ)
    → drop (before + first.count + offset) (behind_zeros ring before first (next ∷ more)) ≡ drop offset (behind_zeros ring 31 next more)
after_first ring before first next more offset =
    let zeros : List Bool = replicate before false in
    let here : List Bool = piece_cells ring first in
    let rest : List Bool = behind_zeros ring 31 next more in
    let e : before + first.count + offset ≡ length zeros + (length here + offset) =
    omega (arith, length-replicate before false, length-stretch ring first.from first.count) in
    ap (λ (n : ℕ). drop n (behind_zeros ring before first (next ∷ more))) e
    ∙ ap (λ (cells : List Bool). drop (length zeros + (length here + offset)) (zeros ++ cells)) (behind_first ring first next more)
    ∙ drop-append-add zeros (here ++ rest) (length here + offset)
    ∙ drop-append-add here rest offset

after-first-start : (ring : List Bool) (before : ℕ) (first next : RingPiece) (more : List RingPiece)
    → drop (before + first.count) (behind_zeros ring before first (next ∷ more)) ≡ behind_zeros ring 31 next more
after-first-start ring before first next more =
    let e : before + first.count ≡ before + first.count + 0 = omega arith in
    ap (λ (n : ℕ). drop n (behind_zeros ring before first (next ∷ more))) e ∙ after_first ring before first next more 0

-- the first piece between zeros, and what follows
first_apart : (ring : List Bool) (before : ℕ) (first next : RingPiece) (more : List RingPiece)
    → behind_zeros ring before first (next ∷ more) ≡ between_zeros ring before first.from first.count 31 ++ cells_of_ring_pieces ring next more
first_apart ring before first next more =
    let zeros : List Bool = replicate before false in
    let here : List Bool = piece_cells ring first in
    let gap : List Bool = replicate 31 false in
    let rest : List Bool = cells_of_ring_pieces ring next more in
    ap (λ (cells : List Bool). zeros ++ cells) (behind_first ring first next more ∙ sym (append_assoc here gap rest))
    ∙ sym (append_assoc zeros (here ++ gap) rest)

between-length : (ring : List Bool) (zeros from count after : ℕ) → length (between_zeros ring zeros from count after) ≡ zeros + count + after
between-length ring zeros from count after =
    let front : List Bool = replicate zeros false in
    let here : List Bool = stretch ring from count in
    let back : List Bool = replicate after false in
    omega (
      arith,
      length-append front (here ++ back),
      length-append here back,
      length-replicate zeros false,
      length-replicate after false,
      length-stretch ring from count,
    )

same_front : (xs ys : List Bool) (place count : ℕ) → place + count ≤ length xs → take count (drop place xs) ≡ take count (drop place (xs ++ ys))
same_front xs ys place count within =
    sym (ap (take count) (drop-append-le place xs ys (omega arith))
    ∙ take-append-le count (drop place xs) ys (omega (arith, length-drop place xs)))

no_zeros-same : (xs ys : List Bool) (shift place count : ℕ)
    → ((offset : ℕ) → drop (shift + offset) xs ≡ drop offset ys) → NoZeros 31 xs (shift + place) (shift + place + count) → NoZeros 31 ys place (place + count)
no_zeros-same xs ys shift place count same none at least most zeros =
    none (shift + at) (omega arith) (omega arith) (ap (take 31) (same at) ∙ zeros)

-- what is located after the first piece
behind_first_piece : (ring : List Bool) (before : ℕ) (first next : RingPiece) (more : List RingPiece) (place count : ℕ) → before + first.count ≤ place
    → Located ring 31 next more (place - (before + first.count)) count → Located ring before first (next ∷ more) place count
behind_first_piece ring before first next more place count late found =
    let rest = place - (before + first.count) in
    let e : before + first.count + rest ≡ place = omega (arith, late) in
    let gone : drop rest (behind_zeros ring 31 next more) ≡ drop place (behind_zeros ring before first (next ∷ more)) =
    sym (after_first ring before first next more rest) ∙ ap (λ (n : ℕ). drop n (behind_zeros ring before first (next ∷ more))) e in
    record {
      index = suc found.index;
      piece = found.piece;
      there = found.there;
      zeros = found.zeros;
      after = found.after;
      offset = found.offset;
      same = found.same ∙ ap (take count) gone;
      few = found.few;
      at = omega (arith, found.at, begin-suc first (next ∷ more) found.index, e);
      most = omega (arith, found.most, begin-suc first (next ∷ more) found.index, e);
    }

-- cells that lie in the first piece and the zeros beside it, and those that lie after them
pub locate : (ring : List Bool) (before : ℕ) (first : RingPiece) (later : List RingPiece) (place count : ℕ) → before ≤ 31 → 0 < count
    → NoZeros 31 (behind_zeros ring before first later) place (place + count) → place + count ≤ length (behind_zeros ring before first later)
    → Located ring before first later place count
locate ring before first [] place count low some none within =
    let size = between-length ring before first.from first.count 0 in
    record {
      index = 0;
      piece = first;
      there = refl;
      zeros = before;
      after = 0;
      offset = place;
      same = refl;
      few = low;
      at = omega arith;
      most = omega (arith, within, size);
    }
locate ring before first (next ∷ more) place count low some none within =
    let cells : List Bool = behind_zeros ring before first (next ∷ more) in
    let size = between-length ring before first.from first.count 31 in
    elim (cases_lt (before + first.count + 31) (place + count)) [
      | inr here ↦ record {
        index = 0;
        piece = first;
        there = refl;
        zeros = before;
        after = 31;
        offset = place;
        same = same_front (between_zeros ring before first.from first.count 31) (cells_of_ring_pieces ring next more) place count (omega (arith, here, size))
            ∙ ap (λ (all : List Bool). take count (drop place all)) (sym (first_apart ring before first next more));
        few = low;
        at = omega arith;
        most = omega (arith, here);
      }
      | inl past ↦ elim (cases_lt place (before + first.count + 1)) [
        | inl early ↦ absurd (none (before + first.count + 0) (omega (arith, early)) (omega (arith, past))
            (ap (take 31) (after_first ring before first next more 0) ∙ all_zeros (cells_of_ring_pieces ring next more)))
        | inr late ↦
            let shift = before + first.count in
            let rest = place - shift in
            let e : shift + rest ≡ place = omega (arith, late) in
            let rest_cells : List Bool = behind_zeros ring 31 next more in
            let lengths : length (drop shift cells) ≡ length rest_cells = ap length (after-first-start ring before first next more) in
            let found = locate ring 31 next more rest count (omega arith) some
            (no_zeros-same cells rest_cells shift rest count (after_first ring before first next more)
            (subst (λ (n : ℕ). NoZeros 31 cells n (n + count)) (sym e) none))
            (omega (arith, within, lengths, length-drop shift cells, e)) in
            behind_first_piece ring before first next more place count (omega (arith, late)) found
      ]
    ]
