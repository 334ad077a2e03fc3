-- Streams of such times are captures, whole and in pieces, and no others are.
use Rattle.std.specs.Prelude.{◌≡◌, ◌<◌, ◌≤◌, ◌↔◌, ℕ, ◌+◌, ◌-◌, ◌*◌, All, Bool, List, [], ◌∷◌, ◌++◌, flat_map, length, refl, slice_index}
use Rattle.std.specs.Int.{abs_diff}
use Rattle.std.proofs.Common.{arith, ap, sym, subst}
use Rattle.std.proofs.lemmas.List.Elements.{All-cons, All-head, All-nil, All-tail}
use Rattle.kryo_stream.specs.Stream.{indexes, times}
use Rattle.phase_loop.specs.Pieces.{AreApart, EachKeepsSpeed, IsPiece, Piece}
use Rattle.phase_loop.specs.Carried.{KeepsSpeed}
use Rattle.flux_engine.specs.Captures.{Capture, ErasedCapture, IsSteady, IsSteadyErased}
use Rattle.law_stated_captures.specs.Laws.{CapturesAreStated, ErasedCapturesAreStated, StatedCapturesAreCaptures, StatedErasedCapturesAreErased, StatedSpeedsAreKept}
use Rattle.law_stated_captures.specs.Streams.{IsStatedPiece, IsStatedSteady, IsStatedSteadyErased, KeepsMean, StartsAt, StatedCapture, StatedErasedCapture, first_mean, last_of}
use Rattle.law_stated_captures.proofs.Times.{carried, differ, kept_by}

starts : (mean nominal : ℕ) (periods : List ℕ) → StartsAt mean nominal periods → 64 * abs_diff mean (slice_index periods 0) ≤ nominal
starts mean nominal periods near = subst (λ (m : ℕ). 64 * m ≤ nominal) (differ mean (slice_index periods 0)) near

starts_at : (mean nominal : ℕ) (periods : List ℕ) → 64 * abs_diff mean (slice_index periods 0) ≤ nominal → StartsAt mean nominal periods
starts_at mean nominal periods near = subst (λ (m : ℕ). 64 * m ≤ nominal) (sym (differ mean (slice_index periods 0))) near

pub captures : StatedCapturesAreCaptures
captures x ring nominal stated = (
  record {
    no_fault = stated.no_fault;
    whole = stated.whole;
    places = stated.places;
    periods = stated.periods;
    carried = carried (times x) ring nominal stated.places stated.periods stated.kept;
    two_turns = stated.two_rings;
    start = starts (first_mean (indexes x) (length ring)) nominal stated.periods stated.speed;
  },
  refl,
  refl,
)

pub no_other_captures : CapturesAreStated
no_other_captures x ring nominal capture = (
  record {
    no_fault = capture.no_fault;
    whole = capture.whole;
    places = capture.places;
    periods = capture.periods;
    kept = kept_by (times x) ring nominal capture.places capture.periods capture.carried;
    two_rings = capture.two_turns;
    speed = starts_at (first_mean (indexes x) (length ring)) nominal capture.periods capture.start;
  },
  refl,
  refl,
)

-- from each piece to the next so many nominal cells
abbrev pub NextIsFar : ℕ → List Piece → Type 0
NextIsFar nominal pieces = (before : List Piece) (piece next : Piece) (behind : List Piece) → before ++ piece ∷ next ∷ behind ≡ pieces
    → 1024 * last_of piece.times + 48 * nominal ≤ 1024 * slice_index next.times 0

far : (nominal last first : ℕ) → 1024 * last + 48 * nominal ≤ 1024 * first → 48 * nominal ≤ 1024 * (first - last)
far nominal last first apart = omega (arith, apart)

far_apart : (nominal last first : ℕ) → 0 < nominal → 48 * nominal ≤ 1024 * (first - last) → 1024 * last + 48 * nominal ≤ 1024 * first
far_apart nominal last first some apart = omega (arith, some, apart)

are_apart : (nominal : ℕ) (first : Piece) (later : List Piece) → NextIsFar nominal (first ∷ later) → AreApart nominal first later
are_apart nominal first [] each = tt
are_apart nominal first (next ∷ later) each = (
  far nominal (last_of first.times) (slice_index next.times 0) (each [] first next later refl),
  are_apart nominal next later (λ before piece after behind is. each (first ∷ before) piece after behind (ap (λ (ps : List Piece). first ∷ ps) is)),
)

same_two : (a b c d : Piece) (xs ys : List Piece) → a ∷ b ∷ xs ≡ c ∷ d ∷ ys → (a ≡ c) × (b ≡ d)
same_two a b c d xs ys is = (cc, cc)

same_rest : (a b : Piece) (xs ys : List Piece) → a ∷ xs ≡ b ∷ ys → xs ≡ ys
same_rest a b xs ys is = cc

no_more : (piece next first : Piece) (behind : List Piece) → piece ∷ next ∷ behind ≡ first ∷ [] → ⊥
no_more piece next first behind is = cc

none_after : (piece next : Piece) (before behind : List Piece) → before ++ piece ∷ next ∷ behind ≡ [] → ⊥
none_after piece next [] behind is = cc
none_after piece next (b ∷ before) behind is = cc

pub next_is_far : (nominal : ℕ) (first : Piece) (later : List Piece) → 0 < nominal → AreApart nominal first later → NextIsFar nominal (first ∷ later)
next_is_far nominal first [] some apart [] piece next behind is = absurd (no_more piece next first behind is)
next_is_far nominal first [] some apart (b ∷ before) piece next behind is =
    absurd (none_after piece next before behind (same_rest b first (before ++ piece ∷ next ∷ behind) [] is))
next_is_far nominal first (second ∷ later) some apart [] piece next behind is =
    let same = same_two piece next first second behind later is in
    let there = far_apart nominal (last_of first.times) (slice_index second.times 0) some apart.0 in
    subst (λ (p : Piece). 1024 * last_of p.times + 48 * nominal ≤ 1024 * slice_index next.times 0) (sym same.0)
    (subst (λ (p : Piece). 1024 * last_of first.times + 48 * nominal ≤ 1024 * slice_index p.times 0) (sym same.1) there)
next_is_far nominal first (second ∷ later) some apart (b ∷ before) piece next behind is =
    next_is_far nominal second later some apart.1 before piece next behind (same_rest b first (before ++ piece ∷ next ∷ behind) (second ∷ later) is)

module _ (mean : ℕ) (ring : List Bool) (nominal : ℕ) where
  is_piece : (piece : Piece) → IsStatedPiece mean ring nominal piece → IsPiece nominal mean ring piece
  is_piece piece is = record {
    some = is.some;
    carried = carried piece.times ring nominal piece.places piece.periods is.kept;
    start = starts mean nominal piece.periods is.speed;
  }

  is_stated : (piece : Piece) → IsPiece nominal mean ring piece → IsStatedPiece mean ring nominal piece
  is_stated piece is = record {
    some = is.some;
    kept = kept_by piece.times ring nominal piece.places piece.periods is.carried;
    speed = starts_at mean nominal piece.periods is.start;
  }

  are_pieces : (pieces : List Piece) → All (IsStatedPiece mean ring nominal) pieces → All (IsPiece nominal mean ring) pieces
  are_pieces [] all = All-nil (IsPiece nominal mean ring)
  are_pieces (piece ∷ pieces) all =
      All-cons (IsPiece nominal mean ring) piece pieces (is_piece piece (All-head (IsStatedPiece mean ring nominal) piece pieces all))
      (are_pieces pieces (All-tail (IsStatedPiece mean ring nominal) piece pieces all))

  are_stated : (pieces : List Piece) → All (IsPiece nominal mean ring) pieces → All (IsStatedPiece mean ring nominal) pieces
  are_stated [] all = All-nil (IsStatedPiece mean ring nominal)
  are_stated (piece ∷ pieces) all =
      All-cons (IsStatedPiece mean ring nominal) piece pieces (is_stated piece (All-head (IsPiece nominal mean ring) piece pieces all))
      (are_stated pieces (All-tail (IsPiece nominal mean ring) piece pieces all))

erased_of : (x : List ℕ) (ring : List Bool) (nominal : ℕ) (stated : StatedErasedCapture x ring nominal) (pieces : List Piece) → stated.pieces ≡ pieces
    → (erased : ErasedCapture x ring nominal) × (erased.first ∷ erased.later ≡ stated.pieces)
erased_of x ring nominal stated [] is = absurd (let some = stated.some in let none = ap length is in omega (arith, some, none))
erased_of x ring nominal stated (first ∷ later) is =
    let mean : ℕ = first_mean (indexes x) (length ring) in (
      record {
        no_fault = stated.no_fault;
        whole = stated.whole;
        first = first;
        later = later;
        carried = record {
          cut = subst (λ (ps : List Piece). times x ≡ flat_map (λ piece. piece.times) ps) is stated.cut;
          pieces = are_pieces mean ring nominal (first ∷ later) (subst (All (IsStatedPiece mean ring nominal)) is stated.kept);
          apart = are_apart nominal first later (subst (NextIsFar nominal) is stated.apart);
        };
      },
      sym is,
    )

pub erased : StatedErasedCapturesAreErased
erased x ring nominal stated = erased_of x ring nominal stated stated.pieces refl

pub no_other_erased : ErasedCapturesAreStated
no_other_erased x ring nominal some capture =
    let mean : ℕ = first_mean (indexes x) (length ring) in
    let pieces : List Piece = capture.first ∷ capture.later in (
      record {
        no_fault = capture.no_fault;
        whole = capture.whole;
        pieces = pieces;
        some = omega arith;
        cut = capture.carried.cut;
        kept = are_stated mean ring nominal pieces capture.carried.pieces;
        apart = next_is_far nominal capture.first capture.later some capture.carried.apart;
      },
      refl,
    )

module _ (mean nominal : ℕ) where
  keeps_speed : (periods : List ℕ) → KeepsMean mean nominal periods → KeepsSpeed nominal mean periods
  keeps_speed periods keeps i within = subst (λ (m : ℕ). 45 * m ≤ nominal) (differ mean (slice_index periods i)) (keeps i within)

  keeps_mean : (periods : List ℕ) → KeepsSpeed nominal mean periods → KeepsMean mean nominal periods
  keeps_mean periods keeps i within = subst (λ (m : ℕ). 45 * m ≤ nominal) (sym (differ mean (slice_index periods i))) (keeps i within)

  -- the same of each piece, wherever it stands
  abbrev EachKeepsMean : List Piece → Type 0
  EachKeepsMean pieces = (before : List Piece) (piece : Piece) (behind : List Piece) → before ++ piece ∷ behind ≡ pieces → KeepsMean mean nominal piece.periods

  abbrev Keeps : Piece → Type 0
  Keeps piece = KeepsSpeed nominal mean piece.periods

  each_speed : (pieces : List Piece) → EachKeepsMean pieces → EachKeepsSpeed nominal mean pieces
  each_speed [] each = All-nil Keeps
  each_speed (piece ∷ pieces) each =
      All-cons Keeps piece pieces (keeps_speed piece.periods (each [] piece pieces refl))
      (each_speed pieces (λ before one behind is. each (piece ∷ before) one behind (ap (λ (ps : List Piece). piece ∷ ps) is)))

  same_piece : (a b : Piece) (xs ys : List Piece) → a ∷ xs ≡ b ∷ ys → a ≡ b
  same_piece a b xs ys is = cc

  none_here : (piece : Piece) (before behind : List Piece) → before ++ piece ∷ behind ≡ [] → ⊥
  none_here piece [] behind is = cc
  none_here piece (b ∷ before) behind is = cc

  each_mean : (pieces : List Piece) → EachKeepsSpeed nominal mean pieces → EachKeepsMean pieces
  each_mean [] all before piece behind is = absurd (none_here piece before behind is)
  each_mean (first ∷ pieces) all [] piece behind is =
      subst (λ (p : Piece). KeepsMean mean nominal p.periods) (sym (same_piece piece first behind pieces is))
      (keeps_mean first.periods (All-head Keeps first pieces all))
  each_mean (first ∷ pieces) all (b ∷ before) piece behind is =
      each_mean pieces (All-tail Keeps first pieces all) before piece behind (same_rest b first (before ++ piece ∷ behind) pieces is)

steady : (x : List ℕ) (ring : List Bool) (nominal : ℕ) (capture : Capture x ring nominal) (stated : StatedCapture x ring nominal)
    → stated.periods ≡ capture.periods → IsStatedSteady x ring nominal stated ↔ IsSteady x ring nominal capture
steady x ring nominal capture stated same =
    let mean : ℕ = first_mean (indexes x) (length ring) in (
      λ keeps. keeps_speed mean nominal capture.periods (subst (KeepsMean mean nominal) same keeps),
      λ keeps. subst (KeepsMean mean nominal) (sym same) (keeps_mean mean nominal capture.periods keeps),
    )

steady_erased : (x : List ℕ) (ring : List Bool) (nominal : ℕ) (capture : ErasedCapture x ring nominal) (stated : StatedErasedCapture x ring nominal)
    → stated.pieces ≡ capture.first ∷ capture.later → IsStatedSteadyErased x ring nominal stated ↔ IsSteadyErased x ring nominal capture
steady_erased x ring nominal capture stated same =
    let mean : ℕ = first_mean (indexes x) (length ring) in (
      λ keeps. each_speed mean nominal (capture.first ∷ capture.later) (subst (EachKeepsMean mean nominal) same keeps),
      λ keeps. subst (EachKeepsMean mean nominal) (sym same) (each_mean mean nominal (capture.first ∷ capture.later) keeps),
    )

pub speeds_are_kept : StatedSpeedsAreKept
speeds_are_kept = record { whole = steady; erased = steady_erased }
