-- What a command does that reads a disk by a plan, by what the reading says.
use Rattle.std.proofs.Common.{◌≡◌, ◌==◌, ◌≤◌, ℕ, ◌+◌, ◌*◌, ◌++◌, Bool, true, false, if◌then◌else◌, inl, inr, List, [], take, length, None, Some, Ok, Err, refl, sym, ap, ◌∙◌, subst, append-nil, arith}
use Rattle.std.proofs.KnownBytes.{Appends-nil, Appends-trans, Keeps-refl}
use Rattle.disk_map.specs.Answers.{MapsDisk}
use Rattle.flux_base.specs.Blames.{CountsBy, no_counts, three_counts}
use Rattle.flux_base.specs.Counts.{FaultCounts}
use Rattle.flux_base.specs.Moments.{Moment}
use Rattle.flux_base.specs.Outside.{Rose}
use Rattle.flux_base.specs.declared.status.Status.{Status}
use Rattle.flux_base.specs.declared.status.Status.TheVariants.{AllGood, NotAllGood, Refused as RefusedStatus, ReadFault as ReadFaultStatus, ImageFault as ImageFaultStatus, NotesFault as NotesFaultStatus}
use Rattle.flux_base.specs.lemmas.Counting.{Counts-none}
use Rattle.flux_engine.specs.Answers.{IsTakenBehind}
use Rattle.flux_engine.specs.Blamed.{stop_blame}
use Rattle.flux_engine.specs.PlanAnswers.{DecodesPlanned, PlanAnswer}
use Rattle.flux_engine.specs.declared.fault.RefusedCapture.{RefusedCapture}
use Rattle.flux_engine.specs.Plans.{Planned, StopsAt, streams_in}
use Rattle.flux_engine.specs.Tracks.{part_by}
use Rattle.flux_engine.specs.declared.fault.Stopped.TheVariants.{ReadFault, ImageFault, NotesFault, Refused}
use Rattle.flux_engine.specs.declared.plan.Plan.{Plan}
use Rattle.flux_engine.specs.declared.track_part.PartFault.TheVariants.{ImageFault as PartImageFault, NotesFault as PartNotesFault}
use Rattle.kryo_stream.specs.declared.fault.StreamFault.TheVariants.{Truncated}
use Rattle.sector_images.specs.Places.{tracks}
use Rattle.sector_images.specs.declared.format.Format.{Format}
use Rattle.sector_report.specs.declared.totals.Totals.{Totals}
use Rattle.flux_cli.specs.Endings.{EndsBy, in_image, plan_ending}
use Rattle.flux_cli.specs.PlanWork.{CutByOutput, CutInReading, IsRead, planned_leaves, planned_outcome, planned_refusal, planned_work, status_by, status_of, stop_text, to_image, to_image_cut, to_notes}
use Rattle.flux_cli.specs.Runs.{Does, Finished, IsCut, Says, growth}
use Rattle.flux_cli.specs.TurnsWork.{MOST_AT_ONCE}
use Rattle.flux_cli.specs.Work.{Got, GotPart, Growth}
use Rattle.flux_cli.specs.World.{Outside, outside, InputMoment}
use Rattle.flux_words.specs.declared.commands.Output.{Output}
use Rattle.flux_words.specs.declared.commands.Output.TheVariants.{ImageAndReport, ReportAlone, Picture}
use Rattle.flux_cli.proofs.Blaming.{CountsBy-noteless}
use Rattle.flux_cli.proofs.EndingLaws.{ends-refused, ends-with}
use Rattle.flux_cli.proofs.Inputs.{Rest, rest}
use Rattle.kryo_stream.specs.Reads.{SourceMoment}
use Rattle.flux_cli.specs.BytesWork.{of_bytes, IsInput, WasReadWhereNeeded}

-- both sinks got all of a disk but the refusal
pub record GotAll (output : Output) (format : Format) (d : Planned) (image notes : Growth) : Type 0 where
  pub image_got : Got image (to_image output format d)
  pub notes_got : Got notes (to_notes output d)

-- what the answer says, by the sink of the run whose fault it names
abbrev pub SaysTo : Plan → Output → Format → (taken later : List ℕ) → (image notes : Growth) → PlanAnswer → Type 0
SaysTo plan output format taken later image notes (Ok totals) =
    (d : Planned) × IsRead plan output format (taken ++ later) d × GotAll output format d image notes × (d.stop ≡ None) × (totals ≡ d.totals)
    × IsTakenBehind (taken ++ later) later (length (tracks format) * plan.captures) 4096
SaysTo plan output format taken later image notes (Err (Refused stop)) =
    (d : Planned) × IsRead plan output format (taken ++ later) d × GotAll output format d image notes
    × (d.stop ≡ Some stop)
    × IsTakenBehind (taken ++ later) later (stop.track * plan.captures + stop.capture) MOST_AT_ONCE
SaysTo plan output format taken later image notes (Err ReadFault) = CutInReading plan output format taken image notes
SaysTo plan output format taken later image notes (Err ImageFault) = CutByOutput PartImageFault plan output format (taken ++ later) later image notes
SaysTo plan output format taken later image notes (Err NotesFault) = CutByOutput PartNotesFault plan output format (taken ++ later) later image notes

-- what was read to where its output goes
pub record ReadsTo {S W N : Type 0} (plan : Plan) (output : Output) (format : Format) (before after : Outside S SourceMoment W N) (answer : PlanAnswer) : Type 0 where
  pub taken : List ℕ
  pub later : List ℕ
  pub input : IsInput before.input.seen after.input.seen taken later
  pub says : SaysTo plan output format taken later (growth before.image after.image) (growth before.notes after.notes) answer
  pub blames : CountsBy (stop_blame answer) (three_counts before.input.counts before.image.counts before.notes.counts) (three_counts after.input.counts after.image.counts after.notes.counts)
  pub needed : WasReadWhereNeeded (planned_work plan output format) before.input.seen after.input.seen

-- the source failed: what was taken is all that it gave
cut-reading : (plan : Plan) (output : Output) (format : Format) (taken : List ℕ) (image notes : Growth) (d : Planned) (stop : RefusedCapture)
    → IsRead plan output format (taken ++ []) d → d.stop ≡ Some stop → stop.fault ≡ Truncated → Got image (to_image_cut output format d) → Got notes (to_notes output d)
    → CutInReading plan output format taken image notes
cut-reading plan output format taken image notes d stop is stops cut_short image_got notes_got = record {
  decoded = d;
  is = subst (λ x. IsRead plan output format x d) (append-nil taken) is;
  image_got = image_got;
  notes_got = notes_got;
  stop = stop;
  stops = stops;
  cut_short = cut_short;
}

-- the sink that counts never fails
abbrev calm : FaultCounts
calm = record { faults = 0; failed = Some 0 }

-- a fault of the report's sink is one of the image's
pub report-blames : {source source' image image' : FaultCounts} (notes : FaultCounts) (answer : PlanAnswer)
    → CountsBy (stop_blame answer) (three_counts source calm image) (three_counts source' calm image')
    → CountsBy (stop_blame (in_image answer)) (three_counts source image notes) (three_counts source' image' notes)
report-blames notes (Ok totals) counts = record { source = counts.source; image = counts.notes; notes = Counts-none notes }
report-blames notes (Err ReadFault) counts = record { source = counts.source; image = counts.notes; notes = Counts-none notes }
report-blames notes (Err ImageFault) counts = absurd (omega (arith, counts.image.cause))
report-blames notes (Err NotesFault) counts = record { source = counts.source; image = counts.notes; notes = Counts-none notes }
report-blames notes (Err (Refused stop)) counts = record { source = counts.source; image = counts.notes; notes = Counts-none notes }

module _ {S W N : Type 0} (plan : Plan) (format : Format) (before after : Outside S SourceMoment W N) where
  -- the image and the report
  says-both : (answer : PlanAnswer)
      → (d : DecodesPlanned plan (part_by plan.naming) format before.input.seen.left after.input.seen.left before.image.bytes after.image.bytes before.notes.bytes after.notes.bytes answer)
      → (r : Rest before.input.seen after.input.seen d.taken)
      → SaysTo plan ImageAndReport format d.taken r.later (growth before.image after.image) (growth before.notes after.notes) answer
  says-both (Ok totals) d r =
      let s = d.says r.later (λ never. absurd never) in
      (s.0, s.1.decoded, record { image_got = s.1.image_grew; notes_got = s.1.notes_grew }, s.2, s.3, s.4)
  says-both (Err (Refused stop)) d r =
      let s = d.says r.later (λ cut. r.ended (d.ended cut)) in
      (s.0, s.1.decoded, record { image_got = s.1.image_grew; notes_got = s.1.notes_grew }, s.2, s.3)
  says-both (Err ReadFault) d r =
      let s = d.says [] (λ _. refl) in
      cut-reading plan ImageAndReport format d.taken (growth before.image after.image) (growth before.notes after.notes) s.0 s.1 s.2.decoded s.3 s.4 s.2.image_grew s.2.notes_grew
  says-both (Err ImageFault) d r = d.says r.later (λ never. absurd never)
  says-both (Err NotesFault) d r = d.says r.later (λ never. absurd never)

  pub reads-both : (answer : PlanAnswer)
      → DecodesPlanned plan (part_by plan.naming) format before.input.seen.left after.input.seen.left before.image.bytes after.image.bytes before.notes.bytes after.notes.bytes answer
      → CountsBy (stop_blame answer) (three_counts before.input.counts before.image.counts before.notes.counts) (three_counts after.input.counts after.image.counts after.notes.counts)
      → WasReadWhereNeeded (planned_work plan ImageAndReport format) before.input.seen after.input.seen → ReadsTo plan ImageAndReport format before after answer
  reads-both answer d blames needed =
      let r = rest before.input.seen after.input.seen d.taken d.consumed in
      record { taken = d.taken; later = r.later; input = r.input; says = says-both answer d r; blames = blames; needed = needed }

-- the report alone: the notes are not touched
module _ {S W N : Type 0} (plan : Plan) (format : Format) (before : Outside S SourceMoment W N) (source : InputMoment S SourceMoment) (image : Moment W) where
  abbrev DecodesReport : PlanAnswer → Type 0
  DecodesReport answer = DecodesPlanned plan (part_by plan.naming) format before.input.seen.left source.seen.left None None before.image.bytes image.bytes answer

  says-report : (answer : PlanAnswer) → CountsBy (stop_blame answer) (three_counts before.input.counts calm before.image.counts) (three_counts source.counts calm image.counts)
      → (d : DecodesReport answer) → (r : Rest before.input.seen source.seen d.taken)
      → SaysTo plan ReportAlone format d.taken r.later (growth before.image image) (growth before.notes before.notes) (in_image answer)
  says-report (Ok totals) counts d r =
      let s = d.says r.later (λ never. absurd never) in
      (s.0, s.1.decoded, record { image_got = s.1.notes_grew; notes_got = Appends-nil before.notes.bytes }, s.2, s.3, s.4)
  says-report (Err (Refused stop)) counts d r =
      let s = d.says r.later (λ cut. r.ended (d.ended cut)) in
      (s.0, s.1.decoded, record { image_got = s.1.notes_grew; notes_got = Appends-nil before.notes.bytes }, s.2, s.3)
  says-report (Err ReadFault) counts d r =
      let s = d.says [] (λ _. refl) in
      cut-reading plan ReportAlone format d.taken (growth before.image image) (growth before.notes before.notes) s.0 s.1 s.2.decoded s.3 s.4 s.2.notes_grew (Appends-nil before.notes.bytes)
  says-report (Err ImageFault) counts d r = absurd (omega (arith, counts.image.cause))
  says-report (Err NotesFault) counts d r = (d.says r.later (λ never. absurd never), Keeps-refl before.notes.bytes)

  pub reads-report : (answer : PlanAnswer) → DecodesReport answer
      → CountsBy (stop_blame answer) (three_counts before.input.counts calm before.image.counts) (three_counts source.counts calm image.counts)
      → WasReadWhereNeeded (planned_work plan ReportAlone format) before.input.seen source.seen
      → ReadsTo plan ReportAlone format before (outside source image before.notes) (in_image answer)
  reads-report answer d blames needed =
      let r = rest before.input.seen source.seen d.taken d.consumed in
      record { taken = d.taken; later = r.later; input = r.input; says = says-report answer blames d r; blames = report-blames before.notes.counts answer blames; needed = needed }

  -- and the picture
  abbrev Maps : PlanAnswer → Type 0
  Maps answer = MapsDisk plan format before.input.seen.left source.seen.left before.image.bytes image.bytes answer

  says-picture : (answer : PlanAnswer) → (d : Maps answer) → (r : Rest before.input.seen source.seen d.taken)
      → SaysTo plan Picture format d.taken r.later (growth before.image image) (growth before.notes before.notes) answer
  says-picture (Ok totals) d r =
      let s = d.says r.later (λ never. absurd never) in
      (s.0, s.1.drawn, record { image_got = s.1.grew; notes_got = Appends-nil before.notes.bytes }, s.2, s.3, s.4)
  says-picture (Err (Refused stop)) d r =
      let s = d.says r.later (λ cut. r.ended (d.ended cut)) in
      (s.0, s.1.drawn, record { image_got = s.1.grew; notes_got = Appends-nil before.notes.bytes }, s.2, s.3)
  says-picture (Err ReadFault) d r =
      let s = d.says [] (λ _. refl) in
      cut-reading plan Picture format d.taken (growth before.image image) (growth before.notes before.notes) s.drawn s.stop s.is s.stops s.cut_short s.grew (Appends-nil before.notes.bytes)
  says-picture (Err ImageFault) d r = (d.says r.later (λ end. r.ended end), Keeps-refl before.notes.bytes)
  says-picture (Err NotesFault) d r = absurd (d.says [] (λ _. refl))

  pub reads-picture : (answer : PlanAnswer) → Maps answer
      → CountsBy (stop_blame answer) (three_counts before.input.counts before.image.counts no_counts) (three_counts source.counts image.counts no_counts)
      → WasReadWhereNeeded (planned_work plan Picture format) before.input.seen source.seen
      → ReadsTo plan Picture format before (outside source image before.notes) answer
  reads-picture answer d blames needed =
      let r = rest before.input.seen source.seen d.taken d.consumed in
      record { taken = d.taken; later = r.later; input = r.input; says = says-picture answer d r; blames = CountsBy-noteless before.notes.counts _ blames; needed = needed }

leaves-if : (plan : Plan) (format : Format) (x later : List ℕ) (b : Bool) → IsTakenBehind x later (length (tracks format) * plan.captures) 4096
    → planned_leaves plan format (if b then AllGood else NotAllGood) x later
leaves-if plan format x later true few = few
leaves-if plan format x later false few = few

module _ {S W N : Type 0} (plan : Plan) (output : Output) (format : Format) (before : Outside S SourceMoment W N) where
  abbrev Reads : Outside S SourceMoment W N → PlanAnswer → Type 0
  Reads after answer = ReadsTo plan output format before after answer

  did : (answer : PlanAnswer) (status : Status) (after : Outside S SourceMoment W N) → Reads after answer → (planned_work plan output format).ends status → Says (of_bytes (planned_work plan output format)) status before after
      → Does (of_bytes (planned_work plan output format)) status before after
  did answer status after t ends says = record { answer = ends; says = says; keeps = t.needed }

  module _ (source : InputMoment S SourceMoment) (image : Moment W) where
    abbrev at : Moment N → Outside S SourceMoment W N
    at notes = outside source image notes

    -- all was decoded
    decoded : (totals : Totals) (mid : Moment N) → Reads (at mid) (Ok totals) → Finished (of_bytes (planned_work plan output format)) (status_of totals) before (at mid)
    decoded totals mid t =
        let d = t.says.0 in
        let none = t.says.3 in
        let same : status_of totals ≡ status_by d.totals d.stop = ap status_of t.says.4 ∙ ap (status_by d.totals) (sym none) in record {
          outcome = planned_outcome output plan.naming format d;
          gives = record {
            taken = t.taken;
            later = t.later;
            input = t.input;
            gives = (d, t.says.1, refl);
            leaves = subst (λ (s : Status). planned_leaves plan format s (t.taken ++ t.later) t.later) same
                (leaves-if plan format (t.taken ++ t.later) t.later (totals.good == totals.sectors) t.says.5);
          };
          status_is = same;
          image_got = t.says.2.image_got;
          notes_got = subst (Got (growth before.notes mid)) (sym (ap (λ stop. to_notes output d ++ planned_refusal plan.naming stop) none ∙ append-nil (to_notes output d))) t.says.2.notes_got;
        }

    planned-done : (totals : Totals) (mid : Moment N) → Reads (at mid) (Ok totals) → Does (of_bytes (planned_work plan output format)) (status_of totals) before (at mid)
    planned-done totals mid t = by (totals.good == totals.sectors) (decoded totals mid t)
      where
        by : (b : Bool) → Finished (of_bytes (planned_work plan output format)) (if b then AllGood else NotAllGood) before (at mid)
            → Does (of_bytes (planned_work plan output format)) (if b then AllGood else NotAllGood) before (at mid)
        by true done = did (Ok totals) AllGood (at mid) t tt done
        by false done = did (Ok totals) NotAllGood (at mid) t tt done

    -- the line of the refusal stands after all that was written
    module _ (mid after : Moment N) (stop : RefusedCapture) (t : Reads (at mid) (Err (Refused stop))) where
      planned-refused : Got (growth mid after) (stop_text plan.naming stop) → mid.counts.faults ≤ after.counts.faults → Does (of_bytes (planned_work plan output format)) RefusedStatus before (at after)
      planned-refused line later =
          let d = t.says.0 in
          let stops = t.says.3 in
          let same : RefusedStatus ≡ status_by d.totals d.stop = ap (status_by d.totals) (sym stops) in
          let done : Finished (of_bytes (planned_work plan output format)) RefusedStatus before (at after) = record {
            outcome = planned_outcome output plan.naming format d;
            gives = record {
              taken = t.taken;
              later = t.later;
              input = t.input;
              gives = (d, t.says.1, refl);
              leaves = subst (λ (s : Status). planned_leaves plan format s (t.taken ++ t.later) t.later) same
                  (stop, subst (StopsAt plan format (streams_in plan (t.taken ++ t.later))) stops t.says.1.stops, t.says.4);
            };
            status_is = same;
            image_got = t.says.2.image_got;
            notes_got = subst (λ refused. Got (growth before.notes after) (to_notes output d ++ planned_refusal plan.naming refused)) (sym stops)
                (Appends-trans before.notes.bytes mid.bytes after.bytes (to_notes output d) (stop_text plan.naming stop) t.says.2.notes_got line);
          } in record {
            answer = tt;
            says = done;
            keeps = t.needed;
          }

      planned-cut-refusal : GotPart (growth mid after) (stop_text plan.naming stop) → mid.counts.faults ≤ after.counts.faults → Rose mid.counts.faults after.counts.faults
          → Does (of_bytes (planned_work plan output format)) NotesFaultStatus before (at after)
      planned-cut-refusal part later rose =
          let d = t.says.0 in
          let place : IsCut (of_bytes (planned_work plan output format)) NotesFaultStatus before (at after) = record {
            taken = t.taken;
            later = t.later;
            input = t.input;
            place = inr (record {
              decoded = d;
              is = t.says.1;
              stop = stop;
              stops = t.says.3;
              image_got = t.says.2.image_got;
              notes_got = (part.0, part.1, Appends-trans before.notes.bytes mid.bytes after.bytes (to_notes output d) (take part.0 (stop_text plan.naming stop)) t.says.2.notes_got part.2);
              taken = t.says.4;
            });
          } in record {
            answer = tt;
            says = (place, omega (arith, t.blames.notes.later, rose));
            keeps = t.needed;
          }

    -- the command ended so
    abbrev Did : Status → Moment N → Type 0
    Did s n = Does (of_bytes (planned_work plan output format)) s before (at n)

    ended : (answer : PlanAnswer) (status : Status) (mid after : Moment N) → Reads (at mid) answer → EndsBy (plan_ending plan.naming answer) status mid after → Does (of_bytes (planned_work plan output format)) status before (at after)
    ended (Ok totals) status mid after t is = ends-with Did (status_of totals) status mid after (planned-done totals mid t) is
    ended (Err ReadFault) status mid after t is =
        ends-with Did ReadFaultStatus status mid after (did (Err ReadFault) ReadFaultStatus (at mid) t tt
        (record { taken = t.taken; later = t.later; input = t.input; place = t.says }, t.blames.source.cause)) is
    ended (Err ImageFault) status mid after t is =
        ends-with Did ImageFaultStatus status mid after (did (Err ImageFault) ImageFaultStatus (at mid) t tt
        (record { taken = t.taken; later = t.later; input = t.input; place = t.says }, t.blames.image.cause)) is
    ended (Err NotesFault) status mid after t is =
        ends-with Did NotesFaultStatus status mid after (did (Err NotesFault) NotesFaultStatus (at mid) t tt
        (record { taken = t.taken; later = t.later; input = t.input; place = inl t.says }, t.blames.notes.cause)) is
    ended (Err (Refused stop)) status mid after t is =
        ends-refused Did (stop_text plan.naming stop) status mid after
        (planned-refused mid after stop t) (planned-cut-refusal mid after stop t) is

-- for all objects
pub plan-ended : {S W N : Type 0} (plan : Plan) (output : Output) (format : Format) (before : Outside S SourceMoment W N) (source : InputMoment S SourceMoment) (image : Moment W)
    (answer : PlanAnswer) (status : Status) (mid after : Moment N) → ReadsTo plan output format before (outside source image mid) answer
    → EndsBy (plan_ending plan.naming answer) status mid after → Does (of_bytes (planned_work plan output format)) status before (outside source image after)
plan-ended plan output format before source image answer status mid after t is =
    ended plan output format before source image answer status mid after t is
