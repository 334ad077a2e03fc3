-- A set of which one capture of each track alone has sectors.
use Rattle.std.specs.Prelude.{◌≡◌, ◌≢◌, ◌<◌, ◌*◌, ◌/◌, ◌%◌, ℕ, Bool, true, false, List, [], ◌∷◌, ◌++◌, flat_map, length, nat_eq, nat_lt, refl}
use Rattle.std.specs.List.{range_with_len}
use Rattle.std.proofs.Common.{arith, sym}
use Rattle.std.proofs.lemmas.Bool.{lt-ltb, ltb-true}
use Rattle.std.proofs.lemmas.Bool.Decides.{nat_tests}
use Rattle.std.proofs.lemmas.List.Elements.{All-nil}
use Rattle.flux_engine.specs.Recordings.{track_at}
use Rattle.flux_engine.specs.Rings.{IsImage, nominal_of, ring_of}
use Rattle.law_captured_disks.specs.Inputs.{AreJoined}
use Rattle.law_stated_captures.specs.Streams.{IsStatedSteadyErased, StatedErasedCapture}
use Rattle.law_stated_disks.specs.Laws.{StreamsInOrderAreJoined}
use Rattle.law_stated_disks.specs.Lies.{LiesInAPiece}
use Rattle.law_stated_disks.specs.Reached.{LatePiecesHaveSectors, SpecksAreCaptures}
use Rattle.law_stated_sets.specs.Reached.{HasOneWhole, SetsReachBounds}
use Rattle.law_stated_sets.proofs.Numbered.{track_below}
use Rattle.phase_loop.specs.Pieces.{Piece}
use Rattle.sector_images.specs.Places.{IsSector, tracks}
use Rattle.sector_images.specs.declared.format.Format.{Format}

same_number : (a b : ℕ) → nat_eq a b ≡ true → a ≡ b
same_number a b is = grind (arith, nat_tests)

other_number : (a b : ℕ) → nat_eq a b ≡ false → a ≢ b
other_number a b is same = grind (arith, nat_tests)

never : (b : Bool) → b ≡ true → b ≡ false → ⊥
never b right wrong = cc

module _ (joined : StreamsInOrderAreJoined) (late : LatePiecesHaveSectors) (specks : SpecksAreCaptures)
    (format : Format) (count whole : ℕ) (image : List ℕ) (index : ℕ) (is : IsImage format image) (low : whole < count) (early : index < 2147483648) where
  abbrev pub n : ℕ
  n = length (tracks format)

  -- stream number i
  pub record IsOne (i : ℕ) (x : List ℕ) : Type 0 where
    pub capture : StatedErasedCapture x (ring_of format image (i / count)) (nominal_of format (i / count))
    pub steady : IsStatedSteadyErased x (ring_of format image (i / count)) (nominal_of format (i / count)) capture
    pub has : i % count ≡ whole → (sector : ℕ) → IsSector format (track_at format (i / count)) sector
        → (lies : LiesInAPiece format image (i / count) sector capture.pieces) × (length lies.before ≡ 1)
    pub single : i % count ≢ whole → (before : List Piece) (piece : Piece) (behind : List Piece) → before ++ piece ∷ behind ≡ capture.pieces → length piece.times ≡ 1

  made_by : (i : ℕ) → i < n * count → (here : Bool) → nat_eq (i % count) whole ≡ here → (x : List ℕ) × IsOne i x
  made_by i below true here =
      let made = late format image (i / count) index is (track_below n count i below) early in
      let one = made.1 in (
        made.0,
        record {
          capture = one.capture;
          steady = one.steady;
          has = λ same sector of. (
            record { before = one.first ∷ []; piece = one.second; behind = []; one = sym one.are; lies = one.whole sector of },
            refl,
          );
          single = λ other. absurd (other (same_number (i % count) whole here));
        },
      )
  made_by i below false here =
      let made = specks format image (i / count) index is (track_below n count i below) early in
      let one = made.1 in (
        made.0,
        record {
          capture = one.capture;
          steady = one.steady;
          has = λ same. absurd (other_number (i % count) whole here same);
          single = λ other. one.single;
        },
      )

  pub one : (i : ℕ) → i < n * count → (x : List ℕ) × IsOne i x
  one i below = made_by i below (nat_eq (i % count) whole) refl

  pub chosen : (i : ℕ) (below : Bool) → nat_lt i (n * count) ≡ below → List ℕ
  chosen i true known = (one i (ltb-true i (n * count) known)).0
  chosen i false known = []

  pub is_one : (i : ℕ) → i < n * count → (below : Bool) (known : nat_lt i (n * count) ≡ below) → IsOne i (chosen i below known)
  unfolding chosen
  is_one i less true known = (one i (ltb-true i (n * count) known)).1
  is_one i less false known = absurd (never (nat_lt i (n * count)) (lt-ltb i (n * count) less) known)

  abbrev pub stream : ℕ → List ℕ
  stream i = chosen i (nat_lt i (n * count)) refl

  abbrev pub x : List ℕ
  x = flat_map (λ k. [] ++ stream k) (range_with_len 0 (n * count)) ++ []

  abbrev pub are_joined : AreJoined (n * count) stream x
  are_joined = record {
    padding = λ k. [];
    later = [];
    joined = refl;
    first = refl;
    padded = λ k known. record { each = All-nil (λ (byte : ℕ). byte ≡ 13); few = omega arith; none_in_stream = λ other. refl };
  }

  pub narrow : HasOneWhole format count whole image x
  narrow = record {
    set = record { stream = stream; stand = (joined (n * count) stream x).1 are_joined; each = λ i below. (is_one i below (nat_lt i (n * count)) refl).capture };
    steady = λ i below. (is_one i below (nat_lt i (n * count)) refl).steady;
    has = λ i below. (is_one i below (nat_lt i (n * count)) refl).has;
    single = λ i below. (is_one i below (nat_lt i (n * count)) refl).single;
  }

pub sets_reach : StreamsInOrderAreJoined → LatePiecesHaveSectors → SpecksAreCaptures → SetsReachBounds
sets_reach joined late specks format count whole image index is low early =
    (x joined late specks format count whole image index is low early, narrow joined late specks format count whole image index is low early)
