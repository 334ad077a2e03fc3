-- Captured disks decode: they are read by the plan of one stream of each track, by the clock that follows the drive.
use Rattle.std.specs.Prelude.{◌≡◌, ◌<◌, ◌⊎◌, ℕ, ◌+◌, ◌*◌, Bool, List, ◌∷◌, drop, length, map, refl}
use Rattle.std.proofs.Common.{ap, sym, subst, arith, inl, inr}
use Rattle.disk_recordings.specs.Members.{sector_at}
use Rattle.kryo_stream.specs.Stream.{indexes, times}
use Rattle.sector_images.specs.Places.{tracks}
use Rattle.sector_images.specs.declared.format.Format.{Format}
use Rattle.turn_merge.specs.Readings.{verdict}
use Rattle.turn_merge.specs.declared.clock.Clock.TheVariants.{Following}
use Rattle.law_decoded_rings.specs.Pieces.{RingPiece}
use Rattle.law_decoded_rings.specs.Verdicts.{LiesInOnePiece, StandsInOnePiece}
use Rattle.flux_engine.specs.Captures.{Capture, ErasedCapture}
use Rattle.flux_engine.specs.DiskLaws.{cells_at, line_number}
use Rattle.flux_engine.specs.PlanLaws.{cells_in}
use Rattle.flux_engine.specs.Plans.{Planned, decoding, joined, streams_in}
use Rattle.flux_engine.specs.Recordings.{cells_of, track_at}
use Rattle.flux_engine.specs.Rings.{IsImage, nominal_of, ring_of}
use Rattle.flux_engine.specs.Streams.{stream_at}
use Rattle.law_captured_disks.specs.Frames.{ring_piece, written_track}
use Rattle.law_captured_disks.specs.Headline.{IsSectorOf, pieces_of}
use Rattle.law_captured_disks.specs.Inputs.{AreJoined, IsCapturedDisk, IsErasedDisk}
use Rattle.law_captured_plans.specs.Headline.{CapturedPlansAreRead, ErasedPlansAreRead, ErasedPlansStandInOnePiece, IsReadWell, IsLost as IsLostByPlan}
use Rattle.law_captured_plans.specs.Inputs.{IsCapturedSet, IsErasedSet}
use Rattle.law_captured_plans.specs.Said.{IsSaidGood}
use Rattle.library_calls.specs.Disks.{Decoded}
use Rattle.library_calls.specs.Headline.{CapturedDisksDecode, DecodesRest, DecodesWhole, ErasedDisksDecode, IsKept, IsLost, Says, SaysGood}
use Rattle.library_calls.proofs.DecodedPlans.{is_planned, plain}
use Rattle.library_calls.proofs.OneStream.{number-is, plain_stop}

-- the one capture of a track
number : (k q : ℕ) → q < 1 → k ≡ k * 1 + q
number k q low = omega (arith, low)

one_of_each : (format : Format) (stream : ℕ → List ℕ) (x : List ℕ) → AreJoined (length (tracks format)) stream x → AreJoined (length (tracks format) * 1) stream x
one_of_each format stream x joined =
    let same : length (tracks format) ≡ length (tracks format) * 1 = omega arith in
    subst (λ (n : ℕ). AreJoined n stream x) same joined

first : 0 < 1
first = omega arith

-- a captured disk is a set of one capture of each track
as_set : (format : Format) (image x : List ℕ) → IsCapturedDisk format image x → IsCapturedSet format 1 image x
as_set format image x disk = record {
  stream = disk.stream;
  joined = one_of_each format disk.stream x disk.joined;
  captured = λ k q known low.
      subst (λ (j : ℕ). Capture (disk.stream j) (ring_of format image k) (nominal_of format k)) (number k q low) (disk.captured k known);
}

-- what the plan says of a sector is what the disk's report says
module _ (format : Format) (image x : List ℕ) (o : Planned) (n sector : ℕ) where
  says_good : IsSaidGood decoding format (streams_in decoding x) o n sector (line_number format n sector) → SaysGood format (plain o) n sector
  says_good g = record { good = g.good; bad = g.bad; first = g.first; line = subst (Says format (plain o) n sector) g.is g.said.line }

  is_kept : IsReadWell decoding format image (streams_in decoding x) o n sector (line_number format n sector) → IsKept format image (plain o) n sector
  is_kept well = (says_good well.good, well.own)

  is_lost : IsLostByPlan decoding format (streams_in decoding x) o n sector (line_number format n sector) → IsLost format (plain o) n sector
  is_lost lost = (record { outcome = verdict (joined lost.said.captures) sector; lost = lost.lost; line = lost.said.line }, lost.zeros)

  kept_or_lost : IsReadWell decoding format image (streams_in decoding x) o n sector (line_number format n sector)
      ⊎ IsLostByPlan decoding format (streams_in decoding x) o n sector (line_number format n sector)
      → IsKept format image (plain o) n sector ⊎ IsLost format (plain o) n sector
  kept_or_lost (inl well) = inl (is_kept well)
  kept_or_lost (inr lost) = inr (is_lost lost)

pub captured_disks_decode : CapturedPlansAreRead → CapturedDisksDecode
captured_disks_decode read format image x d is disk decoded =
    let planned = is_planned format x d decoded in
    let o : Planned = planned.0 in
    let r = read decoding format image x o (omega arith) is (as_set format image x disk) (λ used. absurd used) planned.1 in
    subst (DecodesWhole format image) (sym planned.2) (record {
      no_stop = ap plain_stop r.no_stop;
      image_is = r.image_is;
      all_good = r.all_good;
      lines = λ n sector one. says_good format image x o n sector (r.each n sector one);
    })

module _ (format : Format) (image x : List ℕ) (disk : IsErasedDisk format image x) where
  module _ (k q : ℕ) (known : k < length (tracks format)) (low : q < 1) where
    -- the capture of a track, with its pieces
    moved : (c : ErasedCapture (disk.stream (k * 1 + q)) (ring_of format image k) (nominal_of format k))
        × (ring_piece c.first ∷ map ring_piece c.later ≡ pieces_of format image x disk k known)
    moved =
        subst
        (λ (j : ℕ). (c : ErasedCapture (disk.stream j) (ring_of format image k) (nominal_of format k)) × (ring_piece c.first ∷ map ring_piece c.later ≡ pieces_of format image x disk k known))
        (number k q low) (disk.captured k known, refl)

  abbrev as_erased_set : IsErasedSet format 1 image x
  as_erased_set = record {
    stream = disk.stream;
    joined = one_of_each format disk.stream x disk.joined;
    captured = λ k q known low. (moved k q known low).0;
  }

  module _ (is : IsImage format image) where
    cells_are : (n : ℕ) → cells_in format (streams_in decoding x) n 0 Following ≡ cells_at format x n
    cells_are n = ap (λ (k : ℕ). cells_of format (track_at format n) (times (stream_at x k)) (indexes (stream_at x k))) (number-is n)

    stands : ErasedPlansStandInOnePiece → (n sector : ℕ) (one : IsSectorOf format n sector) (place : ℕ) (bytes : List ℕ)
        → sector_at format (track_at format n) (drop place (cells_at format x n)) sector bytes
        → StandsInOnePiece (λ cells. sector_at format (track_at format n) cells sector bytes) (pieces_of format image x disk n one.track) (cells_at format x n) place
    stands in_one n sector one place bytes here =
        subst (λ (ps : List RingPiece). StandsInOnePiece (λ cells. sector_at format (track_at format n) cells sector bytes) ps (cells_at format x n) place) (moved n 0 one.track first).1
        (subst
        (λ (cs : List Bool). sector_at format (track_at format n) (drop place cs) sector bytes
        → StandsInOnePiece (λ cells. sector_at format (track_at format n) cells sector bytes)
        (ring_piece (moved n 0 one.track first).0.first ∷ map ring_piece (moved n 0 one.track first).0.later) cs place)
        (cells_are n) (in_one decoding format image x is as_erased_set n 0 one.track first sector place bytes) here)

pub erased_disks_decode : ErasedPlansAreRead → ErasedPlansStandInOnePiece → ErasedDisksDecode
erased_disks_decode read in_one format image x d is disk decoded =
    let planned = is_planned format x d decoded in
    let o : Planned = planned.0 in
    let r = read decoding format image x o is (as_erased_set format image x disk) (λ used. absurd used) planned.1 in
    subst (λ (d : Decoded). DecodesRest format image x d disk) (sym planned.2) (record {
      no_stop = ap plain_stop r.no_stop;
      in_one_piece = λ n sector one lies.
          is_kept format image x o n sector
          (r.in_one_piece n sector one (record {
            known = one.track;
            capture = 0;
            low = first;
            lies = subst (λ (ps : List RingPiece). LiesInOnePiece (written_track format image n) ps sector) (sym (moved format image x disk n 0 one.track first).1) lies;
          }));
      each = λ n sector one. kept_or_lost format image x o n sector (r.each n sector one);
      of_one_piece = stands format image x disk is in_one;
    })
