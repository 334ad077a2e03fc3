-- Decoding a disk is reading it by the plan of one stream of each track, by the clock that follows the drive.
use Rattle.std.specs.Prelude.{◌≡◌, ◌<◌, ℕ, zero, suc, ◌+◌, ◌*◌, List, [], ◌∷◌, ◌++◌, length, Option, Some, None, Ok, Err, refl}
use Rattle.std.proofs.Common.{ap, append-nil, sym, subst, ◌∙◌, arith, inl, inr}
use Rattle.flux_base.specs.declared.track.TrackId.{TrackId}
use Rattle.kryo_stream.specs.Stream.{first_fault, indexes, times}
use Rattle.sector_images.specs.Places.{tracks}
use Rattle.sector_images.specs.declared.format.Format.{Format}
use Rattle.sector_report.specs.declared.naming.Naming.TheVariants.{Unnamed}
use Rattle.library_calls.specs.Answers.{CutOfDisk, DecodesDisk, IsOfBytesAtHand, IsTruncated, SaysOfDisk, WroteAll, engine_answer}
use Rattle.flux_engine.specs.Answers.{IsTakenBehind}
use Rattle.flux_engine.specs.Captured.{AreReadingsBy, IsUsed}
use Rattle.flux_engine.specs.Cut.{CutInTrack}
use Rattle.library_calls.specs.Disks.{AreParts, Decoded, IsDecoded, IsPart, IsPartAt, Stop, decoded_count, stop_of}
use Rattle.flux_engine.specs.Disks.{part_at, report_over}
use Rattle.flux_engine.specs.PlanAnswers.{CutOfPlan, DecodesPlanned, IsOfBytesTaken, PlanAnswer, SaysOfPlanned, SaysTruncated, WrotePlanned}
use Rattle.flux_engine.specs.Plans.{AreCaptures, ArePlannedParts, IsFirstFault, IsPlanned, IsPlannedPart, Planned, StopsAt, decoding, planned_count, streams_in}
use Rattle.flux_engine.specs.Recordings.{cells_by, track_at}
use Rattle.flux_engine.specs.Streams.{stream_at}
use Rattle.flux_engine.specs.Tracks.{TrackPart, part_by, readings_in, track_notes}
use Rattle.flux_engine.specs.declared.plan.Clocks.TheVariants.{FollowingAlone}
use Rattle.flux_engine.specs.declared.plan.Rule.TheVariants.{Strict}
use Rattle.flux_engine.specs.declared.fault.RefusedCapture.{RefusedCapture}
use Rattle.flux_engine.specs.declared.fault.Stopped.TheVariants.{ReadFault, ImageFault, NotesFault, Refused}
use Rattle.flux_engine.specs.declared.track_part.PartFault.{PartFault}
use Rattle.flux_engine.specs.declared.track_part.PartFault.TheVariants.{ImageFault as PartImageFault, NotesFault as PartNotesFault}
use Rattle.turn_merge.specs.Readings.{NotedReading}
use Rattle.turn_merge.specs.declared.clock.Clock.{Clock}
use Rattle.turn_merge.specs.declared.clock.Clock.TheVariants.{Following, Held}
use Rattle.library_calls.proofs.OneStream.{number-is, one_stream, plain_stop, stop_same}
use Rattle.library_calls.proofs.Stops.{stops_there}

one_part : (format : Format) (x : List ℕ) (n : ℕ) (part : TrackPart) → IsPlannedPart decoding (part_by Unnamed) format (streams_in decoding x) n part → IsPartAt format x n part
one_part format x n part p =
    let is = one_stream (part_by Unnamed) format x n part p in
    record { no_fault = is.no_fault; comes = record { found = is.found; all = is.all; is = is.is } }

one_parts : (format : Format) (x : List ℕ) (parts : List TrackPart) → ArePlannedParts decoding (part_by Unnamed) format (streams_in decoding x) parts → AreParts format x parts
one_parts format x parts are = λ n low. one_part format x n (part_at parts n) (are n low)

abbrev pub plain : Planned → Decoded
plain o = record { image = o.image; notes = o.notes; totals = o.totals; stop = plain_stop o.stop }

pub same_count : (format : Format) (stop : Option RefusedCapture) → planned_count format stop ≡ decoded_count format (plain_stop stop)
same_count format None = refl
same_count format (Some s) = refl

same_of : (parts : List TrackPart) (stop : Option RefusedCapture) → plain (report_over parts stop) ≡ report_over parts (plain_stop stop)
same_of parts None = refl
same_of parts (Some s) = refl

is_decoded : (format : Format) (x : List ℕ) (o : Planned) → IsPlanned decoding (part_by Unnamed) format (streams_in decoding x) o → IsDecoded format x (plain o)
is_decoded format x o p =
    let stop = stop_same format x o.stop p.stops in
    record {
      parts = p.parts;
      each = one_parts format x p.parts p.each;
      many = p.many ∙ same_count format o.stop ∙ ap (decoded_count format) (sym stop);
      is = ap plain p.is ∙ same_of p.parts o.stop ∙ ap (report_over p.parts) (sym stop);
    }

-- A track's part by its one stream is its part by the plan.
module _ (format : Format) (x : List ℕ) (n : ℕ) (part : TrackPart) (p : IsPartAt format x n part) where
  abbrev track : TrackId
  track = track_at format n

  -- its stream, by its number among all
  at : (first_fault (stream_at x (n * 1 + 0)) ≡ None) × IsPart format track (times (stream_at x (n * 1 + 0))) (indexes (stream_at x (n * 1 + 0))) part
  at =
      subst (λ (k : ℕ). (first_fault (stream_at x k) ≡ None) × IsPart format track (times (stream_at x k)) (indexes (stream_at x k)) part) (sym (number-is n))
      (p.no_fault, p.comes)

  abbrev readings : List NotedReading
  readings = readings_in 0 Following (times (stream_at x (n * 1 + 0))) (indexes (stream_at x (n * 1 + 0)))
      (cells_by Following format track (times (stream_at x (n * 1 + 0))) (indexes (stream_at x (n * 1 + 0)))) at.1.found

  by_clock : (clock : Clock) → IsUsed FollowingAlone clock
      → AreReadingsBy Strict clock format track (times (stream_at x (n * 1 + 0))) (indexes (stream_at x (n * 1 + 0))) 0 readings
  by_clock Following used = record { found = at.1.found; all = at.1.all; are = refl }
  by_clock Held used = absurd used

  capture : AreCaptures decoding format (streams_in decoding x) n (readings ∷ [])
  capture zero low = record { by_clock = λ clock. readings; each = by_clock; are = refl }
  capture (suc q) low = absurd (omega (arith, low))

  no_fault : (q : ℕ) → q < 1 → first_fault (stream_at x (n * 1 + q)) ≡ None
  no_fault zero low = at.0
  no_fault (suc q) low = absurd (omega (arith, low))

  pub planned_part : IsPlannedPart decoding (part_by Unnamed) format (streams_in decoding x) n part
  planned_part = record {
    no_fault = no_fault;
    captures = readings ∷ [];
    many = refl;
    each = capture;
    others = [];
    others_are = ([], [], refl, record { by_clock = λ clock. []; each = λ clock used. record { found = []; all = refl; are = refl }; are = refl }, refl);
    is = at.1.is ∙ ap (λ (rs : List NotedReading). part_by Unnamed format track (track_notes rs [] [])) (sym (append-nil readings));
  }

-- the stop of the plan, which names the one capture
abbrev named_stop : Option Stop → Option RefusedCapture
named_stop None = None
named_stop (Some s) = Some (record { track = s.track; capture = 0; block = s.block; fault = s.fault })

plain_again : (s : Option Stop) → plain_stop (named_stop s) ≡ s
plain_again None = refl
plain_again (Some s) = refl

-- what an input decodes to is what it comes to by the plan
module _ (format : Format) (x : List ℕ) (d : Decoded) (decoded : IsDecoded format x d) where
  no_fault_at : (n q : ℕ) → n < length decoded.parts → q < 1 → first_fault (stream_at x (n * 1 + q)) ≡ None
  no_fault_at n q low few = no_fault format x n (part_at decoded.parts n) (decoded.each n low) q few

  stops_by : (s : Option Stop) → stop_of format x ≡ s → StopsAt decoding format (streams_in decoding x) (named_stop s)
  stops_by None is = λ n q low few.
      let many : length decoded.parts ≡ length (tracks format) = decoded.many ∙ ap (decoded_count format) is in
      no_fault_at n q (omega (arith, low, many)) few
  stops_by (Some s) is =
      let there = stops_there format x s is in
      let many : length decoded.parts ≡ s.track = decoded.many ∙ ap (decoded_count format) is in
      record {
        low = there.0;
        few = omega arith;
        clean = λ n q few before.
            elim before [
              | inl earlier ↦ no_fault_at n q (omega (arith, earlier, many)) few
              | inr same ↦ absurd (omega (arith, same.1))
            ];
        is = subst (λ (k : ℕ). first_fault (stream_at x k) ≡ Some (s.block, s.fault)) (sym (number-is s.track)) there.1;
      }

  count_by : (s : Option Stop) → decoded_count format s ≡ planned_count format (named_stop s)
  count_by None = refl
  count_by (Some s) = refl

  pub is_planned : (o : Planned) × IsPlanned decoding (part_by Unnamed) format (streams_in decoding x) o × (d ≡ plain o)
  is_planned =
      let stop : Option RefusedCapture = named_stop (stop_of format x) in
      let again : report_over decoded.parts (plain_stop stop) ≡ report_over decoded.parts (stop_of format x) =
      ap (report_over decoded.parts) (plain_again (stop_of format x)) in (
        report_over decoded.parts stop,
        record {
          parts = decoded.parts;
          each = λ n low. planned_part format x n (part_at decoded.parts n) (decoded.each n low);
          stops = stops_by (stop_of format x) refl;
          many = decoded.many ∙ count_by (stop_of format x);
          is = refl;
        },
        decoded.is ∙ sym again ∙ sym (same_of decoded.parts stop),
      )

module _ (format : Format) (x later : List ℕ) (image image' notes notes' : Option (List ℕ)) where
  wrote_all : (o : Planned) → WrotePlanned decoding (part_by Unnamed) format x image image' notes notes' o → WroteAll format x image image' notes notes' (plain o)
  wrote_all o w = record { decoded = is_decoded format x o w.decoded; image_grew = w.image_grew; notes_grew = w.notes_grew }

  behind_one : (n m most : ℕ) → n ≡ m → IsTakenBehind x later n most → IsTakenBehind x later m most
  behind_one n m most same taken = subst (λ (k : ℕ). IsTakenBehind x later k most) same taken

  -- a stop names the one capture
  first_capture : (o : Planned) (stop : RefusedCapture) → IsPlanned decoding (part_by Unnamed) format (streams_in decoding x) o → o.stop ≡ Some stop → stop.capture ≡ 0
  first_capture o stop p is =
      let f : IsFirstFault decoding format (streams_in decoding x) stop = subst (StopsAt decoding format (streams_in decoding x)) is p.stops in
      omega (arith, f.few)

  cut_in_track : (cause : PartFault)
      → CutInTrack (λ parts next. ArePlannedParts decoding (part_by Unnamed) format (streams_in decoding x) (parts ++ next ∷ []) × IsTakenBehind x later (length parts * 1) 4198416)
      (length (tracks format)) cause image image' notes notes'
      → CutInTrack (λ parts next. AreParts format x (parts ++ next ∷ []) × IsTakenBehind x later (length parts) 4198416) (length (tracks format)) cause image image' notes notes'
  cut_in_track cause s = record {
    parts = s.parts;
    next = s.next;
    are = (
      one_parts format x (s.parts ++ s.next ∷ []) s.are.0,
      behind_one (length s.parts * 1) (length s.parts) 4198416 (omega arith) s.are.1,
    );
    few = s.few;
    wrote = s.wrote;
  }

  cut_of_disk : (cause : PartFault) → CutOfPlan cause decoding (part_by Unnamed) format x later image image' notes notes'
      → CutOfDisk cause format x later image image' notes notes'
  cut_of_disk PartImageFault s = cut_in_track PartImageFault s
  cut_of_disk PartNotesFault (inl s) = inl (cut_in_track PartNotesFault s)
  cut_of_disk PartNotesFault (inr s) = inr (record {
    parts = s.parts;
    are = (one_parts format x s.parts s.are.0, behind_one (length s.parts * 1) (length s.parts) 4096 (omega arith) s.are.1);
    many = s.many;
    image_grew = s.image_grew;
    notes_grew = s.notes_grew;
  })

  says_of_disk : (answer : PlanAnswer) → SaysOfPlanned decoding (part_by Unnamed) format x later image image' notes notes' answer
      → SaysOfDisk format x later image image' notes notes' (engine_answer answer)
  says_of_disk (Ok totals) (o, wrote, none, are, taken) =
      (plain o, wrote_all o wrote, ap plain_stop none, are, behind_one (length (tracks format) * 1) (length (tracks format)) 4096 (omega arith) taken)
  says_of_disk (Err (Refused stop)) (o, wrote, stops, taken) =
      let first = first_capture o stop wrote.decoded stops in
      (plain o, wrote_all o wrote, ap plain_stop stops, behind_one (stop.track * 1 + stop.capture) stop.track 4198416 (omega (arith, first)) taken)
  says_of_disk (Err ReadFault) (o, stop, wrote, stops, cut) =
      (plain o, record { track = stop.track; block = stop.block; fault = stop.fault }, wrote_all o wrote, ap plain_stop stops, cut)
  says_of_disk (Err ImageFault) s = cut_of_disk PartImageFault s
  says_of_disk (Err NotesFault) s = cut_of_disk PartNotesFault s

at_hand : (answer : PlanAnswer) → IsOfBytesTaken answer → IsOfBytesAtHand (engine_answer answer)
at_hand (Ok totals) cannot = cannot
at_hand (Err ReadFault) is = is
at_hand (Err ImageFault) cannot = cannot
at_hand (Err NotesFault) cannot = cannot
at_hand (Err (Refused stop)) is = is

truncated : (answer : PlanAnswer) → IsTruncated (engine_answer answer) → SaysTruncated answer
truncated (Ok totals) cannot = cannot
truncated (Err ReadFault) cannot = cannot
truncated (Err ImageFault) cannot = cannot
truncated (Err NotesFault) cannot = cannot
truncated (Err (Refused stop)) is = is

pub decodes_disk : (format : Format) (left left' image image' notes notes' : Option (List ℕ)) (answer : PlanAnswer)
    → DecodesPlanned decoding (part_by Unnamed) format left left' image image' notes notes' answer → DecodesDisk format left left' image image' notes notes' (engine_answer answer)
decodes_disk format left left' image image' notes notes' answer d = record {
  taken = d.taken;
  consumed = d.consumed;
  says = λ (later : List ℕ) only. says_of_disk format (d.taken ++ later) later image image' notes notes' answer (d.says later (λ is. only (at_hand answer is)));
  ended = λ is. d.ended (truncated answer is);
}
