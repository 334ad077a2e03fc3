-- A stream whose second piece has each sector of its track whole.
use Rattle.std.specs.Prelude.{◌≡◌, ◌<◌, ◌≤◌, ℕ, zero, suc, ◌+◌, ◌-◌, ◌*◌, All, Bool, List, [], ◌∷◌, ◌++◌, length, slice_index}
use Rattle.std.proofs.Common.{arith, sym, subst, ◌∙◌}
use Rattle.std.proofs.lemmas.List.Elements.{All-head, All-tail}
use Rattle.std.proofs.Math.Nat.{add-mod_right, mod-eq_of_lt}
use Rattle.disk_recordings.specs.Members.{frame_cells, place_in_ring}
use Rattle.flux_engine.specs.Recordings.{track_at}
use Rattle.flux_engine.specs.Rings.{IsImage, nominal_of, ring_of}
use Rattle.kryo_stream.specs.Stream.{indexes}
use Rattle.law_stated_captures.specs.Bounds.{KeepBounds}
use Rattle.law_stated_captures.specs.Reached.{SteadyBoundsAreSpeeds, TrackPiecesReachBounds, slowing}
use Rattle.law_stated_captures.specs.Reaching.{AreAtGap}
use Rattle.law_stated_captures.specs.Streams.{IsStatedPiece, IsStatedSteadyErased, KeepsMean, first_mean, last_of}
use Rattle.law_stated_disks.specs.Lies.{LiesBetween}
use Rattle.law_stated_disks.specs.Reached.{IsLate, IsSpecks, LatePiecesHaveSectors, SpecksAreCaptures}
use Rattle.law_stated_disks.proofs.Wide.{cell_is, keeps_mean, slows}
use Rattle.phase_loop.specs.Pieces.{Piece}
use Rattle.sector_images.specs.Places.{IsSector, NumbersNameTracks, TracksKeepBounds, tracks}
use Rattle.sector_images.specs.declared.format.Format.{Format}

-- each sector's frame lies whole in its track's ring, which has some cells and not too many
pub record FramesFit : Type 0 where
  pub ring : (format : Format) (image : List ℕ) (n : ℕ) → IsImage format image → n < length (tracks format)
      → (1024 ≤ length (ring_of format image n)) × (length (ring_of format image n) ≤ 262144)
  pub frame : (format : Format) (image : List ℕ) (n sector : ℕ) → IsImage format image → n < length (tracks format) → IsSector format (track_at format n) sector
      → place_in_ring format (track_at format n) sector + frame_cells format ≤ length (ring_of format image n)
  pub some : (format : Format) → 1 ≤ frame_cells format

-- so far the places of consecutive ones rise at least
far : (times : List ℕ) (ring : List Bool) (nominal : ℕ) (places periods : List ℕ) → KeepBounds times ring nominal places periods → (i : ℕ) → i < length times
    → slice_index places 0 + i ≤ slice_index places i
far times ring nominal places periods kept zero within = omega arith
far times ring nominal places periods kept (suc i) within =
    let e : i + 1 ≡ suc i = omega arith in
    let before = far times ring nominal places periods kept i (omega (arith, within)) in
    let next = subst (λ (n : ℕ). slice_index places i < slice_index places n) e (kept.rising i (omega (arith, within))) in
    omega (arith, before, next)

-- from one of the first four places of the ring on, over two rings, each frame lies whole
spans : (cells begin frame : ℕ) (places : List ℕ) → 1024 ≤ cells → 1 ≤ frame → begin + frame ≤ cells → slice_index places 0 ≤ 3 → 2 * cells ≤ last_of places
    → LiesBetween cells begin frame places
spans cells begin frame places long some fits first last = record {
  place = begin + cells;
  repeated = add-mod_right begin cells ∙ mod-eq_of_lt (let less : begin < cells = omega (arith, some, fits) in less);
  from = omega (arith, first, long);
  to = omega (arith, fits, last);
}

same_head : (a b : Piece) (xs ys : List Piece) → a ∷ xs ≡ b ∷ ys → a ≡ b
same_head a b xs ys is = cc

same_tail : (a b : Piece) (xs ys : List Piece) → a ∷ xs ≡ b ∷ ys → xs ≡ ys
same_tail a b xs ys is = cc

none_here : (piece : Piece) (before behind : List Piece) → before ++ piece ∷ behind ≡ [] → ⊥
none_here piece [] behind is = cc
none_here piece (b ∷ before) behind is = cc

-- what holds of each of two pieces
each_of : (P : Piece → Type 0) (first second : Piece) → P first → P second → (before : List Piece) (piece : Piece) (behind : List Piece)
    → before ++ piece ∷ behind ≡ first ∷ second ∷ [] → P piece
each_of P first second a b [] piece behind is = subst P (sym (same_head piece first behind (second ∷ []) is)) a
each_of P first second a b (one ∷ []) piece behind is = subst P (sym (same_head piece second behind [] (same_tail one first (piece ∷ behind) (second ∷ []) is))) b
each_of P first second a b (one ∷ (other ∷ before)) piece behind is =
    absurd (none_here piece before behind (same_tail other second (before ++ piece ∷ behind) [] (same_tail one first (other ∷ (before ++ piece ∷ behind)) (second ∷ []) is)))

module _ (names : NumbersNameTracks) (keep : TracksKeepBounds) (speeds : SteadyBoundsAreSpeeds) (reach : TrackPiecesReachBounds) (fit : FramesFit) where
  module _ (format : Format) (image : List ℕ) (n index : ℕ) (is : IsImage format image) (known : n < length (tracks format)) (early : index < 2147483648) where
    abbrev ring : List Bool
    ring = ring_of format image n

    abbrev nominal : ℕ
    nominal = nominal_of format n

    abbrev speed : ℕ → ℕ
    speed = slowing nominal nominal

    abbrev ones : ℕ
    ones = 2 * length ring + 1

    -- the drive keeps its speed in both pieces
    steady : (x : List ℕ) (from many from' many' : ℕ) (at : AreAtGap x ring nominal from many speed from' many' speed nominal index)
        → IsStatedSteadyErased x ring nominal at.stated
    steady x from many from' many' at before piece behind one =
        let mean : ℕ = first_mean (indexes x) (length ring) in
        let drive = slows speeds nominal (cell_is names keep format n known) in
        each_of (λ (piece : Piece). KeepsMean mean nominal piece.periods) at.first at.second
        (keeps_mean nominal mean speed at.first.periods drive.keeps at.mean_is at.speed_is)
        (keeps_mean nominal mean speed at.second.periods drive.keeps at.mean_is at.speed_is')
        before piece behind (one ∙ at.are)

    two : (x : List ℕ) (from from' : ℕ) → from' ≤ 3 → AreAtGap x ring nominal from 1 speed from' ones speed nominal index → IsLate format image n x
    two x from from' low at =
        let mean : ℕ = first_mean (indexes x) (length ring) in
        let P : Piece → Type 0 = IsStatedPiece mean ring nominal in
        let both = subst (All P) at.are at.stated.kept in
        let second : IsStatedPiece mean ring nominal at.second = All-head P at.second [] (All-tail P at.first (at.second ∷ []) both) in
        let size = at.size' in
        let each = second.kept.each_place in
        let cells = fit.ring format image n is known in
        let begins = at.begins' in
        let top : slice_index at.second.places 0 + (length at.second.places - 1) ≤ last_of at.second.places =
        far at.second.times ring nominal at.second.places at.second.periods second.kept (length at.second.places - 1) (omega (arith, size, each)) in
        record {
          capture = at.stated;
          steady = steady x from 1 from' ones at;
          first = at.first;
          second = at.second;
          are = at.are;
          single = at.size;
          whole = λ sector one.
              spans (length ring) (place_in_ring format (track_at format n) sector) (frame_cells format) at.second.places cells.0 (fit.some format)
              (fit.frame format image n sector is known one) (omega (arith, begins, low)) (omega (arith, top, size, each));
          out_of_band = at.out_of_band;
        }

    pub late : (x : List ℕ) × IsLate format image n x
    late =
        let drive = slows speeds nominal (cell_is names keep format n known) in
        let cells = fit.ring format image n is known in
        let made = reach format image n 0 1 speed 0 ones speed nominal index is known (omega arith) (omega arith) (omega (arith, cells)) drive.is drive.is early in
        (made.6, two made.6 made.0 made.3 (omega (arith, made.5)) made.7)

    pub specks : (x : List ℕ) × IsSpecks format image n x
    specks =
        let drive = slows speeds nominal (cell_is names keep format n known) in
        let made = reach format image n 0 1 speed 0 1 speed nominal index is known (omega arith) (omega arith) (omega arith) drive.is drive.is early in
        let at = made.7 in (
          made.6,
          record {
            capture = at.stated;
            steady = steady made.6 made.0 1 made.3 1 at;
            single = λ before piece behind one. each_of (λ (piece : Piece). length piece.times ≡ 1) at.first at.second at.size at.size' before piece behind (one ∙ at.are);
            out_of_band = at.out_of_band;
          },
        )

pub late_have : NumbersNameTracks → TracksKeepBounds → SteadyBoundsAreSpeeds → TrackPiecesReachBounds → FramesFit → LatePiecesHaveSectors
late_have names keep speeds reach fit format image n index is known early = late names keep speeds reach fit format image n index is known early

pub specks_are : NumbersNameTracks → TracksKeepBounds → SteadyBoundsAreSpeeds → TrackPiecesReachBounds → FramesFit → SpecksAreCaptures
specks_are names keep speeds reach fit format image n index is known early = specks names keep speeds reach fit format image n index is known early
