-- What an answer says of the input that a source tells, and when the source is read.
use Rattle.std.specs.Prelude.{◌≡◌, ◌<◌, ℕ, ◌+◌, ◌*◌, Bool, List, [], ◌++◌, length, nat_lt, take, Option, Some, None, Ok, Err, refl}
use Rattle.std.specs.List.{concat}
use Rattle.std.specs.Io.KnownBytes.{Consumes, IsAtEnd}
use Rattle.std.proofs.Common.{ap, sym, subst, ◌∙◌, append-nil}
use Rattle.std.proofs.lemmas.List.{append_cancel_right}
use Rattle.kryo_stream.specs.Outcome.{DoNotTell, IsReadWhereNeeded, input_of}
use Rattle.kryo_stream.specs.Reads.{SourceMoment}
use Rattle.kryo_stream.specs.Stream.{first_fault}
use Rattle.kryo_stream.specs.declared.fault.StreamFault.TheVariants.{Truncated}
use Rattle.sector_images.specs.Places.{tracks}
use Rattle.sector_images.specs.declared.format.Format.{Format}
use Rattle.flux_engine.specs.Needed.{ReadsWhereOpen}
use Rattle.flux_engine.specs.Streams.{stream_at}
use Rattle.flux_engine.specs.lemmas.ReadLaws.{Rest, reads_more, rest_of, some_same}
use Rattle.flux_engine.specs.PlanAnswers.{DecodesPlanned, IsOfBytesTaken, SaysOfPlanned, SaysOfPlannedInput, PlanAnswer}
use Rattle.flux_engine.specs.PlanProgress.{HasCome}
use Rattle.flux_engine.specs.Plans.{EndsInPlan, PartOf}
use Rattle.flux_engine.specs.declared.fault.Stopped.TheVariants.{ReadFault, ImageFault, NotesFault, Refused}
use Rattle.flux_engine.specs.lemmas.PlanStops.{stops_here}
use Rattle.flux_engine.specs.declared.plan.Plan.{Plan}

at_end : (x taken : List ℕ) (left' : Option (List ℕ)) → IsAtEnd left' → (r : Rest x left' taken) → r.rest ≡ []
at_end x taken None end r = absurd (cc)
at_end x taken (Some rest) end r = (let same : rest ≡ r.rest = some_same rest r.rest r.left in sym same ∙ end)

module _ (plan : Plan) (of : PartOf) (format : Format) (x : List ℕ) (left left' image image' notes notes' : Option (List ℕ)) (told : left ≡ Some x) where
  abbrev Decodes : PlanAnswer → Type 0
  Decodes answer = DecodesPlanned plan of format left left' image image' notes notes' answer

  rest_is : (taken : List ℕ) → Consumes left left' taken → Rest x left' taken
  rest_is taken consumed = rest_of x taken left' (subst (λ (l : Option (List ℕ)). Consumes l left' taken) told consumed)

  whole : (answer : PlanAnswer) (d : Decodes answer) (r : Rest x left' d.taken) → (IsOfBytesTaken answer → r.rest ≡ [])
      → SaysOfPlanned plan of format x r.rest image image' notes notes' answer
  whole answer d r at_hand =
      subst (λ (xs : List ℕ). SaysOfPlanned plan of format xs r.rest image image' notes notes' answer) (sym r.all) (d.says r.rest at_hand)

  pub says_of_planned : (answer : PlanAnswer) → Decodes answer → SaysOfPlannedInput plan of format x left' image image' notes notes' answer
  says_of_planned (Ok totals) d = (let r = rest_is d.taken d.consumed in (r.rest, r.left, whole (Ok totals) d r (λ cannot. absurd cannot)))
  says_of_planned (Err (Refused stop)) d =
      let r = rest_is d.taken d.consumed in
      (r.rest, r.left, whole (Err (Refused stop)) d r (λ truncated. at_end x d.taken left' (d.ended truncated) r))
  says_of_planned (Err ReadFault) d =
      let r = rest_is d.taken d.consumed in (
        d.taken,
        r.rest,
        r.all,
        r.left,
        subst (λ (xs : List ℕ). SaysOfPlanned plan of format xs [] image image' notes notes' (Err ReadFault)) (append-nil d.taken) (d.says [] (λ failed. refl)),
      )
  says_of_planned (Err ImageFault) d = (let r = rest_is d.taken d.consumed in (r.rest, r.left, whole (Err ImageFault) d r (λ cannot. absurd cannot)))
  says_of_planned (Err NotesFault) d = (let r = rest_is d.taken d.consumed in (r.rest, r.left, whole (Err NotesFault) d r (λ cannot. absurd cannot)))

-- one stream more is read
module _ (plan : Plan) (format : Format) (x : List ℕ) (old mid new : SourceMoment) (told : old.left ≡ Some x) (taken held : List ℕ) (used : Bool) (n q : ℕ)
    (c : HasCome old.left mid.left taken held used (n * plan.captures + q)) (low : n < length (tracks format)) (few : q < plan.captures) where
  -- bytes that do not tell the answer for this stream do not tell that for the set
  untold : (more : List ℕ) → DoNotTell used (held ++ more) → EndsInPlan plan format (taken ++ more)
  untold more open_still =
      let here : stream_at (taken ++ more) (n * plan.captures + q) ≡ input_of used (held ++ more) =
      ap (input_of (nat_lt 0 (n * plan.captures + q))) (c.rest more) ∙ ap (λ b. input_of b (held ++ more)) (sym c.used) in (
        record { track = n; capture = q; block = open_still.0; fault = Truncated },
        stops_here plan format (taken ++ more) n q open_still.0 Truncated low few (c.clean more) (ap first_fault here ∙ open_still.1),
        refl,
      )

  -- what was taken is what the reads gave
  taken_is : (r : ReadsWhereOpen (EndsInPlan plan format) old mid) → concat r.pieces ≡ taken
  taken_is r =
      let all = rest_of x taken mid.left (subst (λ l. Consumes l mid.left taken) told c.consumed) in
      let given = rest_of x (concat r.pieces) mid.left (subst (λ l. Consumes l mid.left (concat r.pieces)) told r.consumed) in
      let same : given.rest ≡ all.rest = some_same given.rest all.rest (sym given.left ∙ all.left) in
      append_cancel_right (concat r.pieces) taken all.rest (ap (λ rest. concat r.pieces ++ rest) (sym same) ∙ sym given.all ∙ all.all)

  pub capture_more : ReadsWhereOpen (EndsInPlan plan format) old mid → IsReadWhereNeeded mid new used held
      → ReadsWhereOpen (EndsInPlan plan format) old new
  capture_more r p = reads_more (EndsInPlan plan format) old mid new r p.pieces (
    p.gave,
    p.consumed,
    λ k below. subst (λ so_far. EndsInPlan plan format (so_far ++ concat (take k p.pieces))) (sym (taken_is r)) (untold (concat (take k p.pieces)) (p.needed k below)),
    p.still,
  )
