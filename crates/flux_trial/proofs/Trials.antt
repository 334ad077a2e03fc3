-- What decoding a trial's input answers.
use Rattle.std.proofs.Common.{◌≡◌, ◌<◌, ◌+◌, ◌*◌, ◌++◌, ℕ, Bool, List, [], ◌∷◌, length, take, refl, ap, subst, ◌∙◌, arith, length-append}
use Rattle.std.specs.Prelude.{if◌then◌else◌, Option, Some, None, Ok, Err, sum}
use Rattle.std.proofs.lemmas.Bool.{lt-leb}
use Rattle.std.proofs.lemmas.List.{length-take-le}
use Rattle.std.proofs.lemmas.List.Concat.{flat_map-append}
use Rattle.flux_base.specs.Blames.{Blame, is_image, is_notes, is_source}
use Rattle.flux_base.specs.Counts.{RoseIf}
use Rattle.flux_base.specs.Outside.{GREATEST_COUNT, Rose}
use Rattle.kryo_stream.specs.Growth.{StreamsStay}
use Rattle.kryo_stream.specs.Joined.{PaddingIsPassed}
use Rattle.kryo_stream.specs.Stream.{first_fault}
use Rattle.sector_images.specs.Formats.{row}
use Rattle.sector_images.specs.Places.{tracks}
use Rattle.sector_images.specs.declared.format.Format.{Format}
use Rattle.sector_report.specs.Lines.{trial_text}
use Rattle.sector_report.specs.declared.naming.Naming.TheVariants.{Unnamed}
use Rattle.sector_report.specs.declared.totals.Totals.{Totals}
use Rattle.flux_engine.specs.Blamed.{stop_blame}
use Rattle.flux_engine.specs.Disks.{images}
use Rattle.flux_engine.specs.PlanAnswers.{PlanAnswer, SaysOfPlannedInput}
use Rattle.flux_engine.specs.Plans.{IsPlanned, Planned, Streams, StopsAt, decoding, streams_in}
use Rattle.flux_engine.specs.Streams.{stream_at}
use Rattle.flux_engine.specs.Tracks.{TrackPart, part_by}
use Rattle.flux_engine.specs.declared.fault.RefusedCapture.{RefusedCapture}
use Rattle.flux_engine.specs.declared.fault.Stopped.{Stopped}
use Rattle.flux_engine.specs.declared.fault.Stopped.TheVariants.{ReadFault, ImageFault, NotesFault, Refused}
use Rattle.flux_engine.specs.declared.plan.Plan.{Plan}
use Rattle.flux_trial.specs.Tracks.{IsTrialLine, trial_input, trial_stream}
use Rattle.flux_trial.specs.inside.Keeping.{faults_of, ROOM}
use Rattle.law_captured_disks.specs.lemmas.Streams.{is_stream_number}
use Rattle.law_captured_plans.specs.Said.{PlannedPartsFitImages}
use Rattle.flux_trial.proofs.Joined.{input_joined}
use Rattle.flux_trial.proofs.Rings.{Laws, is_stream}

-- a sink that is not full has not failed
pub none_failed : (bytes : List ℕ) → length bytes < ROOM → faults_of bytes ≡ 0
none_failed bytes few = ap (λ (b : Bool). if b then GREATEST_COUNT else 0) (lt-leb ROOM (length bytes) few)

pub never_rose : (count : ℕ) → count ≡ 0 → Rose 0 count → ⊥
never_rose count none rose = absurd (omega (arith, none, rose))

none_some : {X : Type 0} (o : Option X) (a : X) → o ≡ None → o ≡ Some a → ⊥
none_some o a none some = cc

-- what is said of a call that reads the trial's disk by the plan of a decoded one
abbrev Says : Plan → Format → (x : List ℕ) → (left' notes notes' : Option (List ℕ)) → (old image : List ℕ) → PlanAnswer → Type 0
Says plan format x left' notes notes' old image answer = SaysOfPlannedInput plan (part_by plan.naming) format x left' (Some old) (Some image) notes notes' answer

-- a fault is told of the sink of the image where that failed more often
abbrev RoseFor : Blame → (old image : List ℕ) → Type 0
RoseFor blame old image = RoseIf (is_source blame) 0 0 × RoseIf (is_image blame) (faults_of old) (faults_of image) × RoseIf (is_notes blame) 0 0

module _ (laws : Laws) (stay : StreamsStay) (passed : PaddingIsPassed) (fit : PlannedPartsFitImages) (format : Format) (seed : ℕ) where
  abbrev streams : Streams
  streams = streams_in decoding (trial_input format seed)

  streams_sound : (k q : ℕ) → k < length (tracks format) → q < 1 → (streams k q).fault ≡ None
  streams_sound k q below low =
      let only : k ≡ k * 1 + q = omega (arith, low) in
      subst (λ (m : ℕ). first_fault (stream_at (trial_input format seed) m) ≡ None) only
      (is_stream_number stay passed (length (tracks format)) (trial_stream format seed) (trial_input format seed) (input_joined format seed)
      (λ j known. (let s = is_stream laws format seed j known in (s.no_fault, s.whole))) k below).no_fault

  never_stops : (stop : Option RefusedCapture) → StopsAt decoding format streams stop → stop ≡ None
  never_stops None clean = refl
  never_stops (Some s) first = absurd (none_some _ _ (streams_sound s.track s.capture first.low first.few) first.is)

  -- no fault can come of a source and of notes that never fail, and of a sink that keeps more than an image
  no_answer : (x : List ℕ) (left' notes notes' : Option (List ℕ)) (image : List ℕ) (fault : Stopped RefusedCapture) → x ≡ trial_input format seed
      → RoseFor (stop_blame {A = Totals} (Err fault)) [] image → Says decoding format x left' notes notes' [] image (Err fault) → ⊥
  no_answer x left' notes notes' image ReadFault is rose says = never_rose 0 refl rose.0
  no_answer x left' notes notes' image NotesFault is rose says = never_rose 0 refl rose.2
  no_answer x left' notes notes' image (Refused stop) is rose says =
      let o : Planned = says.2.0 in
      let none = never_stops o.stop (subst (λ (y : List ℕ). IsPlanned decoding (part_by Unnamed) format (streams_in decoding y) o) is says.2.1.decoded).stops in
      absurd (none_some _ _ none says.2.2)
  no_answer x left' notes notes' image ImageFault is rose says =
      let s = says.2 in
      let parts : List TrackPart = s.parts in
      let most = fit decoding format (streams_in decoding x) (parts ++ s.next ∷ []) s.are.0 (omega (arith, s.few, length-append parts (s.next ∷ []))) in
      let both = ap length (flat_map-append (λ (p : TrackPart). p.image) parts (s.next ∷ [])) in
      let split = length-append (images parts) (images (s.next ∷ [])) in
      let one = length-append s.next.image [] in
      let grew = s.wrote.0 in
      let size = ap length grew.2 in
      let front = length-append (images parts) (take grew.0 s.next.image) in
      let cut = length-take-le grew.0 s.next.image (omega (arith, grew.1)) in
      let few : length image < ROOM = omega (arith, most, both, split, one, size, front, cut, grew.1, laws.small format) in
      never_rose (faults_of image) (none_failed image few) rose.1

  -- the line of a trial that was decoded whole
  is_line : (x : List ℕ) (left' notes notes' : Option (List ℕ)) (image : List ℕ) (totals : Totals) (count total : ℕ) (line : List ℕ) → x ≡ trial_input format seed
      → Says decoding format x left' notes notes' [] image (Ok totals) → count ≡ length (tracks format) → total ≡ sum image
      → line ≡ trial_text format seed count totals total → IsTrialLine format seed line
  is_line x left' notes notes' image totals count total line is says count_is total_is line_is =
      let o : Planned = says.2.0 in record {
        decoded = o;
        is = subst (λ (y : List ℕ). IsPlanned decoding (part_by Unnamed) format (streams_in decoding y) o) is says.2.1.decoded;
        line_is = line_is ∙ ap (λ (n : ℕ). trial_text format seed n totals total) count_is
            ∙ ap (λ (t : Totals). trial_text format seed (length (tracks format)) t total) says.2.3
            ∙ ap (trial_text format seed (length (tracks format)) o.totals) (total_is ∙ ap sum says.2.1.image_grew);
      }

  -- the same, where the call's plan, format and objects are known by equations
  module _ (plan : Plan) (format' : Format) (x : List ℕ) (left' notes notes' : Option (List ℕ)) (old image : List ℕ) (plan_is : plan ≡ decoding) (same : format' ≡ format)
      (none : old ≡ []) where
    says_of : (answer : PlanAnswer) → Says plan format' x left' notes notes' old image answer → Says decoding format x left' notes notes' [] image answer
    says_of answer says =
        subst (λ (o : List ℕ). Says decoding format x left' notes notes' o image answer) none
        (subst (λ (f : Format). Says decoding f x left' notes notes' old image answer) same
        (subst (λ (p : Plan). Says p format' x left' notes notes' old image answer) plan_is says))

    pub no_answer-of : (fault : Stopped RefusedCapture) → x ≡ trial_input format seed → RoseFor (stop_blame {A = Totals} (Err fault)) old image
        → Says plan format' x left' notes notes' old image (Err fault) → ⊥
    no_answer-of fault is rose says =
        no_answer x left' notes notes' image fault is (subst (λ (o : List ℕ). RoseFor (stop_blame {A = Totals} (Err fault)) o image) none rose) (says_of (Err fault) says)

    pub is_line-of : (totals : Totals) (count total : ℕ) (line : List ℕ) → x ≡ trial_input format seed → Says plan format' x left' notes notes' old image (Ok totals)
        → count ≡ length (tracks format) → total ≡ sum image → line ≡ trial_text format seed count totals total → IsTrialLine format seed line
    is_line-of totals count total line is says = is_line x left' notes notes' image totals count total line is (says_of (Ok totals) says)
