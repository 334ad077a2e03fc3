-- What a disk comes to by the plan of one stream of each track: each track by its stream alone.
use Rattle.std.specs.Prelude.{◌≡◌, ◌<◌, ℕ, ◌+◌, ◌*◌, List, [], ◌∷◌, find, get_or, is_some, length, option_and_then, option_map, true, false, Option, Some, None, refl}
use Rattle.std.specs.List.{range_with_len}
use Rattle.std.proofs.Common.{ap, sym, subst, ◌∙◌, arith, inl, append-nil}
use Rattle.disk_recordings.specs.Members.{header_at, sector_at}
use Rattle.frame_law.specs.Readings.{AreReadings}
use Rattle.kryo_stream.specs.Reads.{SourceMoment}
use Rattle.kryo_stream.specs.Stream.{first_fault, indexes, times}
use Rattle.kryo_stream.specs.declared.fault.StreamFault.{StreamFault}
use Rattle.sector_images.specs.Places.{tracks}
use Rattle.sector_images.specs.declared.format.Format.{Format}
use Rattle.turn_merge.specs.Others.{NotedOther}
use Rattle.turn_merge.specs.Readings.{NotedReading}
use Rattle.turn_merge.specs.declared.clock.Clock.TheVariants.{Following}
use Rattle.flux_engine.specs.Answers.{IsTakenBehind}
use Rattle.flux_engine.specs.Captured.{AreReadingsAt}
use Rattle.library_calls.specs.Disks.{Stop, stop_at, stop_of, has_fault}
use Rattle.library_calls.specs.Answers.{EndsInStreams}
use Rattle.flux_engine.specs.Needed.{ReadsWhereOpen}
use Rattle.flux_engine.specs.PlanProgress.{StoppedAt}
use Rattle.flux_engine.specs.declared.fault.RefusedCapture.{RefusedCapture}
use Rattle.flux_engine.specs.Plans.{AreCaptures, EndsInPlan, IsPlannedPart, PartOf, StopsAt, decoding, joined, streams_in}
use Rattle.flux_engine.specs.Recordings.{cells_of, track_at}
use Rattle.flux_engine.specs.Streams.{stream_at}
use Rattle.flux_engine.specs.Tracks.{Found, TrackPart, readings_of, track_notes}
use Rattle.flux_engine.specs.lemmas.NoOthers.{strict_has_no_others}
use Rattle.flux_base.specs.lemmas.Finding.{find-first, find-none}

-- the one stream of track number n
pub number-is : (n : ℕ) → n * 1 + 0 ≡ n
number-is n = omega arith

one_joined : (captures : List (List NotedReading)) → length captures ≡ 1 → joined captures ≡ get_or captures 0 []
one_joined [] many = absurd (omega (arith, many))
one_joined (readings ∷ []) many = append-nil readings
one_joined (readings ∷ more ∷ others) many = absurd (omega (arith, many))

-- stream number n of x has no fault, and this is what becomes of all that can be read of it
pub record IsOfOneStream (of : PartOf) (format : Format) (x : List ℕ) (n : ℕ) (part : TrackPart) : Type 0 where
  pub no_fault : first_fault (stream_at x n) ≡ None
  pub found : List Found
  pub all : AreReadings (header_at format (track_at format n)) (sector_at format (track_at format n)) (cells_of format (track_at format n) (times (stream_at x n)) (indexes (stream_at x n))) 0 found
  pub is : part ≡ of format (track_at format n)
      (track_notes (readings_of (times (stream_at x n)) (indexes (stream_at x n)) (cells_of format (track_at format n) (times (stream_at x n)) (indexes (stream_at x n))) found) [] [])

-- the readings of its captures are all that can be read of it
pub one_list : (format : Format) (x : List ℕ) (n : ℕ) (captures : List (List NotedReading)) → length captures ≡ 1 → AreCaptures decoding format (streams_in decoding x) n captures
    → AreReadingsAt format (track_at format n) (times (stream_at x n)) (indexes (stream_at x n)) 0 (joined captures)
one_list format x n captures many each =
    let readings : List NotedReading = get_or captures 0 [] in
    let one = each 0 (omega (arith, many)) in
    subst (AreReadingsAt format (track_at format n) (times (stream_at x n)) (indexes (stream_at x n)) 0) (sym (one_joined captures many))
    (subst (λ (k : ℕ). AreReadingsAt format (track_at format n) (times (stream_at x k)) (indexes (stream_at x k)) 0 readings) (number-is n)
    (subst (AreReadingsAt format (track_at format n) (times (stream_at x (n * 1 + 0))) (indexes (stream_at x (n * 1 + 0))) 0) (sym one.are) (one.each Following tt)))

pub one_stream : (of : PartOf) (format : Format) (x : List ℕ) (n : ℕ) (part : TrackPart) → IsPlannedPart decoding of format (streams_in decoding x) n part
    → IsOfOneStream of format x n part
one_stream of format x n part p =
    let first : 0 < 1 = omega arith in
    let at = one_list format x n p.captures p.many p.each in
    record {
      no_fault = subst (λ (k : ℕ). first_fault (stream_at x k) ≡ None) (number-is n) (p.no_fault 0 first);
      found = at.found;
      all = at.all;
      is = p.is ∙ ap (λ (rs : List NotedReading). of format (track_at format n) (track_notes rs [] p.others)) at.are
          ∙ ap (λ (os : List NotedOther). of format (track_at format n)
          (track_notes (readings_of (times (stream_at x n)) (indexes (stream_at x n)) (cells_of format (track_at format n) (times (stream_at x n)) (indexes (stream_at x n))) at.found) [] os))
          (strict_has_no_others decoding format (streams_in decoding x) n 1 p.others refl p.others_are);
    }

some-fault : (x : List ℕ) (n block : ℕ) (fault : StreamFault) → first_fault (stream_at x n) ≡ Some (block, fault) → has_fault x n ≡ true
some-fault x n block fault is = ap (λ (o : Option (ℕ × StreamFault)). is_some o) is

no-fault : (x : List ℕ) (n : ℕ) → first_fault (stream_at x n) ≡ None → has_fault x n ≡ false
no-fault x n is = ap (λ (o : Option (ℕ × StreamFault)). is_some o) is

-- the stop is the first stream that has a fault
pub stop_is : (format : Format) (x : List ℕ) (n block : ℕ) (fault : StreamFault) → n < length (tracks format)
    → ((k : ℕ) → k < n → first_fault (stream_at x k) ≡ None) → first_fault (stream_at x n) ≡ Some (block, fault)
    → stop_of format x ≡ Some (record { track = n; block = block; fault = fault })
unfolding stop_of
stop_is format x n block fault low clean is =
    let here : 0 + n ≡ n = omega arith in
    let found : find (has_fault x) (range_with_len 0 (length (tracks format))) ≡ Some n =
    find-first (has_fault x) 0 n (length (tracks format)) low (λ k above below. no-fault x k (clean k (omega (arith, below))))
    (ap (has_fault x) here ∙ some-fault x n block fault is) ∙ ap Some here in
    ap (option_and_then (stop_at x)) found
    ∙ ap (λ (o : Option (ℕ × StreamFault)). option_map (λ (f : ℕ × StreamFault). let s : Stop = record { track = n; block = f.0; fault = f.1 } in s) o) is

pub no_stop : (format : Format) (x : List ℕ) → ((k : ℕ) → k < length (tracks format) → first_fault (stream_at x k) ≡ None) → stop_of format x ≡ None
unfolding stop_of
no_stop format x clean =
    ap (option_and_then (stop_at x))
    (find-none (has_fault x) 0 (length (tracks format)) (λ k above below. no-fault x k (clean k (omega (arith, below)))))

-- a stop that does not name the one capture
abbrev pub plain_stop : Option RefusedCapture → Option Stop
plain_stop None = None
plain_stop (Some s) = Some (record { track = s.track; block = s.block; fault = s.fault })

pub stop_same : (format : Format) (x : List ℕ) (stop : Option RefusedCapture) → StopsAt decoding format (streams_in decoding x) stop → stop_of format x ≡ plain_stop stop
stop_same format x None clean =
    no_stop format x (λ k low. subst (λ (i : ℕ). first_fault (stream_at x i) ≡ None) (number-is k) (clean k 0 low (omega arith)))
stop_same format x (Some s) f =
    let only : s.track * 1 + s.capture ≡ s.track = omega (arith, f.few) in
    stop_is format x s.track s.block s.fault f.low
    (λ k low. subst (λ (i : ℕ). first_fault (stream_at x i) ≡ None) (number-is k) (f.clean k 0 (omega arith) (inl low)))
    (subst (λ (i : ℕ). first_fault (stream_at x i) ≡ Some (s.block, s.fault)) only f.is)

-- the stream of a track is the first with a fault
pub stopped_there : (format : Format) (x later : List ℕ) (n q block : ℕ) (fault : StreamFault) → n < length (tracks format) → StoppedAt decoding n x later q block fault
    → stop_of format x ≡ Some (record { track = n; block = block; fault = fault })
stopped_there format x later n q block fault low s =
    let only : n * 1 + q ≡ n = omega (arith, s.low) in
    stop_is format x n block fault low (λ k below. s.clean k (omega (arith, below)))
    (subst (λ (i : ℕ). first_fault (stream_at x i) ≡ Some (block, fault)) only s.is)

pub taken_there : (x later : List ℕ) (n q block : ℕ) (fault : StreamFault) → StoppedAt decoding n x later q block fault → IsTakenBehind x later n 4198416
taken_there x later n q block fault s =
    let only : n * 1 + q ≡ n = omega (arith, s.low) in
    subst (λ (i : ℕ). IsTakenBehind x later i 4198416) only s.taken

-- reads that are needed for the plan are needed for the disk
pub ends_in_streams : (format : Format) (x : List ℕ) → EndsInPlan decoding format x → EndsInStreams format x
ends_in_streams format x (stop, first, cut) =
    (record { track = stop.track; block = stop.block; fault = stop.fault }, stop_same format x (Some stop) first, cut)

pub reads_weaken : (A B : List ℕ → Type 0) (old new : SourceMoment) → ((x : List ℕ) → A x → B x) → ReadsWhereOpen A old new → ReadsWhereOpen B old new
reads_weaken A B old new weaker r = record {
  pieces = r.pieces;
  gave = r.gave;
  consumed = r.consumed;
  needed = λ k below. weaker _ (r.needed k below);
  still = r.still;
}
