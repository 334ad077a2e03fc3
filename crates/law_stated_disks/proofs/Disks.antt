-- Stated disks are captured ones, and captured ones are stated, also where they are erased in parts.
use Rattle.std.specs.Prelude.{◌≡◌, ◌<◌, ℕ, ◌∷◌, length, refl, unwrap_or, Option}
use Rattle.std.proofs.Common.{arith, ap, sym, subst}
use Rattle.flux_base.specs.declared.track.TrackId.{TrackId}
use Rattle.flux_engine.specs.Captures.{Capture, ErasedCapture}
use Rattle.flux_engine.specs.Recordings.{track_at}
use Rattle.flux_engine.specs.Rings.{nominal_of, ring_of}
use Rattle.law_captured_disks.specs.Inputs.{IsErasedDisk}
use Rattle.law_stated_captures.specs.Laws.{CapturesAreStated, ErasedCapturesAreStated, StatedCapturesAreCaptures, StatedErasedCapturesAreErased, StatedSpeedsAreKept}
use Rattle.law_stated_captures.specs.Streams.{StatedCapture, StatedErasedCapture}
use Rattle.law_stated_disks.specs.Disks.{StatedErasedDisk}
use Rattle.law_stated_disks.specs.Laws.{CapturedDisksAreStated, ErasedDisksAreStated, SectorsLieInPieces, StatedDisksAreCaptured, StatedErasedDisksAreErased, StreamsInOrderAreJoined}
use Rattle.sector_images.specs.Places.{IsTrack, NumbersNameTracks, TracksKeepBounds, tracks}
use Rattle.sector_images.specs.declared.format.Format.{Format}

-- each track has a cell
module _ (names : NumbersNameTracks) (keep : TracksKeepBounds) where
  pub some_cell : (format : Format) (k : ℕ) → k < length (tracks format) → 0 < nominal_of format k
  some_cell format k below =
      let named = names format k below in
      let is : IsTrack format (track_at format k) = subst (IsTrack format) (sym (ap (λ (t : Option TrackId). unwrap_or t (record { cylinder = 0; head = 0 })) named.1)) named.2 in
      let short = (keep format (track_at format k) is).shortest_cell in
      omega (arith, short)

module _ (joined : StreamsInOrderAreJoined) (speeds : StatedSpeedsAreKept) where
  pub are_captured : StatedCapturesAreCaptures → StatedDisksAreCaptured
  are_captured captures format image x stated =
      let made : (k : ℕ) (known : k < length (tracks format)) → (capture : Capture (stated.stream k) (ring_of format image k) (nominal_of format k)) × (capture.places ≡ (stated.each k known).places) × (capture.periods ≡ (stated.each k known).periods) =
      λ k known. captures (stated.stream k) (ring_of format image k) (nominal_of format k) (stated.each k known) in (
        record {
          stream = stated.stream;
          joined = (joined (length (tracks format)) stated.stream x).0 stated.stand;
          captured = λ k known. (made k known).0;
        },
        record {
          streams = refl;
          periods = λ k known. sym (made k known).2;
          steady = (
            λ keeps k known. (speeds.whole (stated.stream k) (ring_of format image k) (nominal_of format k) (made k known).0 (stated.each k known) (sym (made k known).2)).0 (keeps k known),
            λ keeps k known. (speeds.whole (stated.stream k) (ring_of format image k) (nominal_of format k) (made k known).0 (stated.each k known) (sym (made k known).2)).1 (keeps k known),
          );
        },
      )

  pub are_stated : CapturesAreStated → CapturedDisksAreStated
  are_stated captures format image x disk =
      let made : (k : ℕ) (known : k < length (tracks format)) → (stated : StatedCapture (disk.stream k) (ring_of format image k) (nominal_of format k)) × (stated.places ≡ (disk.captured k known).places) × (stated.periods ≡ (disk.captured k known).periods) =
      λ k known. captures (disk.stream k) (ring_of format image k) (nominal_of format k) (disk.captured k known) in (
        record {
          stream = disk.stream;
          stand = (joined (length (tracks format)) disk.stream x).1 disk.joined;
          each = λ k known. (made k known).0;
        },
        record {
          streams = refl;
          periods = λ k known. (made k known).2;
          steady = (
            λ keeps k known. (speeds.whole (disk.stream k) (ring_of format image k) (nominal_of format k) (disk.captured k known) (made k known).0 (made k known).2).0 (keeps k known),
            λ keeps k known. (speeds.whole (disk.stream k) (ring_of format image k) (nominal_of format k) (disk.captured k known) (made k known).0 (made k known).2).1 (keeps k known),
          );
        },
      )

  module _ (lie : SectorsLieInPieces) where
    pub are_erased : StatedErasedCapturesAreErased → StatedErasedDisksAreErased
    are_erased captures format image x stated =
        let made : (k : ℕ) (known : k < length (tracks format)) → (capture : ErasedCapture (stated.stream k) (ring_of format image k) (nominal_of format k)) × (capture.first ∷ capture.later ≡ (stated.each k known).pieces) =
        λ k known. captures (stated.stream k) (ring_of format image k) (nominal_of format k) (stated.each k known) in
        let disk : IsErasedDisk format image x = record {
          stream = stated.stream;
          joined = (joined (length (tracks format)) stated.stream x).0 stated.stand;
          captured = λ k known. (made k known).0;
        } in (
          disk,
          record {
            streams = refl;
            pieces = λ k known. sym (made k known).1;
            steady = (
              λ keeps k known. (speeds.erased (stated.stream k) (ring_of format image k) (nominal_of format k) (made k known).0 (stated.each k known) (sym (made k known).1)).0 (keeps k known),
              λ keeps k known. (speeds.erased (stated.stream k) (ring_of format image k) (nominal_of format k) (made k known).0 (stated.each k known) (sym (made k known).1)).1 (keeps k known),
            );
            whole = λ n sector. (
              λ has. (has.known, (lie format image (stated.stream n) n sector (made n has.known).0 (stated.each n has.known) (sym (made n has.known).1)).0 has.lies),
              λ has. record { known = has.0; lies = (lie format image (stated.stream n) n sector (made n has.0).0 (stated.each n has.0) (sym (made n has.0).1)).1 has.1 },
            );
          },
        )

    pub are_stated_erased : NumbersNameTracks → TracksKeepBounds → ErasedCapturesAreStated → ErasedDisksAreStated
    are_stated_erased names keep captures format image x disk =
        let made : (k : ℕ) (known : k < length (tracks format)) → (stated : StatedErasedCapture (disk.stream k) (ring_of format image k) (nominal_of format k)) × (stated.pieces ≡ (disk.captured k known).first ∷ (disk.captured k known).later) =
        λ k known. captures (disk.stream k) (ring_of format image k) (nominal_of format k) (some_cell names keep format k known) (disk.captured k known) in
        let stated : StatedErasedDisk format image x = record {
          stream = disk.stream;
          stand = (joined (length (tracks format)) disk.stream x).1 disk.joined;
          each = λ k known. (made k known).0;
        } in (
          stated,
          record {
            streams = refl;
            pieces = λ k known. (made k known).1;
            steady = (
              λ keeps k known. (speeds.erased (disk.stream k) (ring_of format image k) (nominal_of format k) (disk.captured k known) (made k known).0 (made k known).1).0 (keeps k known),
              λ keeps k known. (speeds.erased (disk.stream k) (ring_of format image k) (nominal_of format k) (disk.captured k known) (made k known).0 (made k known).1).1 (keeps k known),
            );
            whole = λ n sector. (
              λ has. (has.known, (lie format image (disk.stream n) n sector (disk.captured n has.known) (made n has.known).0 (made n has.known).1).0 has.lies),
              λ has. record { known = has.0; lies = (lie format image (disk.stream n) n sector (disk.captured n has.0) (made n has.0).0 (made n has.0).1).1 has.1 },
            );
          },
        )
