-- Stated sets are captured ones, and captured ones are stated, also where they are erased in parts.
use Rattle.std.specs.Prelude.{◌<◌, ◌*◌, ℕ, List, ◌∷◌, length, map, refl, unwrap_or, Option}
use Rattle.std.proofs.Common.{arith, ap, sym, subst}
use Rattle.flux_base.specs.declared.track.TrackId.{TrackId}
use Rattle.flux_engine.specs.Captures.{Capture, ErasedCapture, IsSteady, IsSteadyErased}
use Rattle.flux_engine.specs.Recordings.{track_at}
use Rattle.flux_engine.specs.Rings.{nominal_of, ring_of}
use Rattle.law_captured_disks.specs.Frames.{ring_piece, written_track}
use Rattle.law_decoded_rings.specs.Verdicts.{LiesInOnePiece}
use Rattle.law_stated_captures.specs.Laws.{CapturesAreStated, ErasedCapturesAreStated, StatedCapturesAreCaptures, StatedErasedCapturesAreErased, StatedSpeedsAreKept}
use Rattle.law_stated_captures.specs.Streams.{IsStatedSteady, IsStatedSteadyErased, StatedCapture, StatedErasedCapture}
use Rattle.law_stated_disks.specs.Laws.{SectorsLieInPieces, StreamsInOrderAreJoined}
use Rattle.law_stated_disks.specs.Lies.{LiesInAPiece}
use Rattle.law_stated_sets.specs.Laws.{CapturedSetsAreStated, ErasedSetsAreStated, StatedErasedSetsAreErased, StatedSetsAreCaptured}
use Rattle.law_stated_sets.proofs.Numbered.{back, forth}
use Rattle.sector_images.specs.Places.{IsTrack, NumbersNameTracks, TracksKeepBounds, tracks}
use Rattle.sector_images.specs.declared.format.Format.{Format}

-- each track has a cell
some_cell : NumbersNameTracks → TracksKeepBounds → (format : Format) (k : ℕ) → k < length (tracks format) → 0 < nominal_of format k
some_cell names keep format k below =
    let named = names format k below in
    let is : IsTrack format (track_at format k) = subst (IsTrack format) (sym (ap (λ (t : Option TrackId). unwrap_or t (record { cylinder = 0; head = 0 })) named.1)) named.2 in
    let short = (keep format (track_at format k) is).shortest_cell in
    omega (arith, short)

-- what stands in both spellings of one stream that captures the ring of track number k
module _ (format : Format) (image : List ℕ) (stream : ℕ → List ℕ) where
  abbrev Stated : ℕ → ℕ → Type 0
  Stated j k = StatedCapture (stream j) (ring_of format image k) (nominal_of format k)

  abbrev Captured : ℕ → ℕ → Type 0
  Captured j k = Capture (stream j) (ring_of format image k) (nominal_of format k)

  abbrev StatedSteady : (j k : ℕ) → Stated j k → Type 0
  StatedSteady j k one = IsStatedSteady (stream j) (ring_of format image k) (nominal_of format k) one

  abbrev Steady : (j k : ℕ) → Captured j k → Type 0
  Steady j k one = IsSteady (stream j) (ring_of format image k) (nominal_of format k) one

  abbrev StatedAny : (j k : ℕ) → Stated j k → ℕ → Type 0
  StatedAny j k one s = Unit {0}

  abbrev Any : (j k : ℕ) → Captured j k → ℕ → Type 0
  Any j k one s = Unit {0}

  abbrev StatedInPieces : ℕ → ℕ → Type 0
  StatedInPieces j k = StatedErasedCapture (stream j) (ring_of format image k) (nominal_of format k)

  abbrev InPieces : ℕ → ℕ → Type 0
  InPieces j k = ErasedCapture (stream j) (ring_of format image k) (nominal_of format k)

  abbrev StatedSteadyIn : (j k : ℕ) → StatedInPieces j k → Type 0
  StatedSteadyIn j k one = IsStatedSteadyErased (stream j) (ring_of format image k) (nominal_of format k) one

  abbrev SteadyIn : (j k : ℕ) → InPieces j k → Type 0
  SteadyIn j k one = IsSteadyErased (stream j) (ring_of format image k) (nominal_of format k) one

  abbrev StatedLies : (j k : ℕ) → StatedInPieces j k → ℕ → Type 0
  StatedLies j k one s = LiesInAPiece format image k s one.pieces

  abbrev Lies : (j k : ℕ) → InPieces j k → ℕ → Type 0
  Lies j k one s = LiesInOnePiece (written_track format image k) (ring_piece one.first ∷ map ring_piece one.later) s

module _ (joined : StreamsInOrderAreJoined) (speeds : StatedSpeedsAreKept) where
  pub are_captured : StatedCapturesAreCaptures → StatedSetsAreCaptured
  are_captured captures format count image x set =
      let n : ℕ = length (tracks format) in
      let s : ℕ → List ℕ = set.stream in
      let made = forth n count (Stated format image s) (Captured format image s) (StatedSteady format image s) (Steady format image s) (StatedAny format image s) (Any format image s)
      (λ j k known one.
      let capture = captures (s j) (ring_of format image k) (nominal_of format k) one in
      (capture.0, (speeds.whole (s j) (ring_of format image k) (nominal_of format k) capture.0 one (sym capture.2), λ any. (λ u. u, λ u. u))))
      set.each in (
        record { stream = s; joined = (joined (n * count) s x).0 set.stand; captured = made.0 },
        record { streams = refl; steady = made.1.all },
      )

  pub are_stated : CapturesAreStated → CapturedSetsAreStated
  are_stated captures format count image x set =
      let n : ℕ = length (tracks format) in
      let s : ℕ → List ℕ = set.stream in
      let made = back n count (Stated format image s) (Captured format image s) (StatedSteady format image s) (Steady format image s) (StatedAny format image s) (Any format image s)
      (λ j k known one.
      let stated = captures (s j) (ring_of format image k) (nominal_of format k) one in
      (stated.0, (speeds.whole (s j) (ring_of format image k) (nominal_of format k) one stated.0 stated.2, λ any. (λ u. u, λ u. u))))
      set.captured in (
        record { stream = s; stand = (joined (n * count) s x).1 set.joined; each = made.0 },
        record { streams = refl; steady = made.1.all },
      )

  module _ (lie : SectorsLieInPieces) where
    pub are_erased : StatedErasedCapturesAreErased → StatedErasedSetsAreErased
    are_erased captures format count image x set =
        let n : ℕ = length (tracks format) in
        let s : ℕ → List ℕ = set.stream in
        let made = forth n count (StatedInPieces format image s) (InPieces format image s) (StatedSteadyIn format image s) (SteadyIn format image s) (StatedLies format image s) (Lies format image s)
        (λ j k known one.
        let capture = captures (s j) (ring_of format image k) (nominal_of format k) one in (
          capture.0,
          (
            speeds.erased (s j) (ring_of format image k) (nominal_of format k) capture.0 one (sym capture.1),
            λ sector. lie format image (s j) k sector capture.0 one (sym capture.1),
          ),
        ))
        set.each in (
          record { stream = s; joined = (joined (n * count) s x).0 set.stand; captured = made.0 },
          record {
            streams = refl;
            steady = made.1.all;
            whole = λ track sector. (
              λ has. (let some = (made.1.some track sector).0 (has.i, has.below, has.of, has.lies) in
                  record { known = some.0; capture = some.1; low = some.2; lies = some.3 }),
              λ has. (let some = (made.1.some track sector).1 (has.known, has.capture, has.low, has.lies) in
                  record { i = some.0; below = some.1; of = some.2; lies = some.3 }),
            );
          },
        )

    pub are_stated_erased : NumbersNameTracks → TracksKeepBounds → ErasedCapturesAreStated → ErasedSetsAreStated
    are_stated_erased names keep captures format count image x set =
        let n : ℕ = length (tracks format) in
        let s : ℕ → List ℕ = set.stream in
        let made = back n count (StatedInPieces format image s) (InPieces format image s) (StatedSteadyIn format image s) (SteadyIn format image s) (StatedLies format image s) (Lies format image s)
        (λ j k known one.
        let stated = captures (s j) (ring_of format image k) (nominal_of format k) (some_cell names keep format k known) one in (
          stated.0,
          (
            speeds.erased (s j) (ring_of format image k) (nominal_of format k) one stated.0 stated.1,
            λ sector. lie format image (s j) k sector one stated.0 stated.1,
          ),
        ))
        set.captured in (
          record { stream = s; stand = (joined (n * count) s x).1 set.joined; each = made.0 },
          record {
            streams = refl;
            steady = made.1.all;
            whole = λ track sector. (
              λ has. (let some = (made.1.some track sector).0 (has.i, has.below, has.of, has.lies) in
                  record { known = some.0; capture = some.1; low = some.2; lies = some.3 }),
              λ has. (let some = (made.1.some track sector).1 (has.known, has.capture, has.low, has.lies) in
                  record { i = some.0; below = some.1; of = some.2; lies = some.3 }),
            );
          },
        )
