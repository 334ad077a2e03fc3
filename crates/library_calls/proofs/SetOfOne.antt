-- With one capture of each track an input comes to what it decodes to.
use Rattle.std.specs.Prelude.{◌≡◌, ◌<◌, ℕ, ◌+◌, ◌*◌, List, [], ◌∷◌, get_or, length, None}
use Rattle.std.proofs.Common.{ap, sym, subst, ◌∙◌, arith, append-nil}
use Rattle.kryo_stream.specs.Stream.{first_fault, indexes, times}
use Rattle.turn_merge.specs.Readings.{NotedReading}
use Rattle.turn_merge.specs.declared.clock.Clock.TheVariants.{Following}
use Rattle.flux_engine.specs.Captured.{AreReadingsAt}
use Rattle.flux_engine.specs.Plans.{joined}
use Rattle.flux_engine.specs.Recordings.{track_at}
use Rattle.flux_engine.specs.Streams.{stream_at}
use Rattle.flux_engine.specs.Tracks.{TrackPart, part_of, track_notes}
use Rattle.library_calls.proofs.OneCapture.{one_capture}
use Rattle.library_calls.specs.SetLaws.{SetsOfOneAreDecoded}
use Rattle.library_calls.specs.Sets.{capture_stream, set_part_of}

one_joined : (captures : List (List NotedReading)) → length captures ≡ 1 → joined captures ≡ get_or captures 0 []
one_joined [] many = absurd (omega (arith, many))
one_joined (readings ∷ []) many = append-nil readings
one_joined (readings ∷ more ∷ others) many = absurd (omega (arith, many))

pub sets_of_one : SetsOfOneAreDecoded
sets_of_one format x n part p =
    let number : n * 1 + 0 ≡ n = omega arith in
    let here : capture_stream 1 x n 0 ≡ stream_at x n = ap (stream_at x) number in
    let first : 0 < 1 = omega arith in
    let readings : List NotedReading = get_or p.captures 0 [] in
    let one = p.each 0 (omega (arith, p.many)) in
    let at : AreReadingsAt format (track_at format n) (times (stream_at x n)) (indexes (stream_at x n)) 0 readings =
    subst (λ (y : List ℕ). AreReadingsAt format (track_at format n) (times y) (indexes y) 0 readings) here
    (subst (AreReadingsAt format (track_at format n) (times (capture_stream 1 x n 0)) (indexes (capture_stream 1 x n 0)) 0) (sym one.are) (one.each Following tt)) in
    let all : part ≡ set_part_of format (track_at format n) (track_notes readings [] p.others) =
    p.is ∙ ap (λ (rs : List NotedReading). set_part_of format (track_at format n) (track_notes rs [] p.others)) (one_joined p.captures p.many) in
    record {
      plain = part_of format (track_at format n) readings;
      is = record {
        no_fault = subst (λ (y : List ℕ). first_fault y ≡ None) here (p.no_fault 0 first);
        comes = one_capture format (track_at format n) (times (stream_at x n)) (indexes (stream_at x n)) readings at;
      };
      image_is = ap (λ (t : TrackPart). t.image) all;
      totals_are = ap (λ (t : TrackPart). t.totals) all;
    }
