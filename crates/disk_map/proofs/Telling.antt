-- What an answer says of the input that a source tells, and when the source is read.
use Rattle.std.specs.Prelude.{◌≡◌, ℕ, List, [], Option, Some, None, Ok, Err, refl}
use Rattle.std.specs.Io.KnownBytes.{Consumes, IsAtEnd}
use Rattle.std.proofs.Common.{sym, subst, ◌∙◌, arith, append-nil}
use Rattle.sector_images.specs.declared.format.Format.{Format}
use Rattle.flux_engine.specs.Answers.{Stayed}
use Rattle.flux_base.specs.Blames.{CountsBy, no_counts, three_counts}
use Rattle.flux_base.specs.Counts.{FaultCounts}
use Rattle.flux_engine.specs.Blamed.{stop_blame}
use Rattle.flux_engine.specs.PlanAnswers.{IsFinished, PlanAnswer}
use Rattle.flux_engine.specs.declared.fault.RefusedCapture.{RefusedCapture}
use Rattle.flux_engine.specs.declared.fault.Stopped.{Stopped}
use Rattle.flux_engine.specs.declared.fault.Stopped.TheVariants.{ReadFault, ImageFault, NotesFault, Refused}
use Rattle.flux_engine.specs.declared.plan.Plan.{Plan}
use Rattle.flux_engine.specs.lemmas.ReadLaws.{Rest, rest_of, some_same}
use Rattle.disk_map.specs.Answers.{IsOfDiskAtHand, MapsDisk, SaysOfMap, SaysOfMapInput}

at_end : (x taken : List ℕ) (left' : Option (List ℕ)) → IsAtEnd left' → (r : Rest x left' taken) → r.rest ≡ []
at_end x taken None end r = absurd (cc)
at_end x taken (Some rest) end r = (let same : rest ≡ r.rest = some_same rest r.rest r.left in sym same ∙ end)

module _ (plan : Plan) (format : Format) (x : List ℕ) (left left' picture picture' : Option (List ℕ)) (told : left ≡ Some x) where
  abbrev Maps : PlanAnswer → Type 0
  Maps answer = MapsDisk plan format left left' picture picture' answer

  rest_is : (taken : List ℕ) → Consumes left left' taken → Rest x left' taken
  rest_is taken consumed = rest_of x taken left' (subst (λ (l : Option (List ℕ)). Consumes l left' taken) told consumed)

  whole : (answer : PlanAnswer) (d : Maps answer) (r : Rest x left' d.taken) → (IsOfDiskAtHand left' answer → r.rest ≡ []) → SaysOfMap plan format x r.rest picture picture' answer
  whole answer d r at_hand =
      subst (λ (xs : List ℕ). SaysOfMap plan format xs r.rest picture picture' answer) (sym r.all) (d.says r.rest at_hand)

  pub says_of_input : (answer : PlanAnswer) → Maps answer → SaysOfMapInput plan format x left' picture picture' answer
  says_of_input (Ok totals) d = (let r = rest_is d.taken d.consumed in (r.rest, r.left, whole (Ok totals) d r (λ cannot. absurd cannot)))
  says_of_input (Err (Refused stop)) d =
      let r = rest_is d.taken d.consumed in
      (r.rest, r.left, whole (Err (Refused stop)) d r (λ truncated. at_end x d.taken left' (d.ended truncated) r))
  says_of_input (Err ReadFault) d =
      let r = rest_is d.taken d.consumed in (
        d.taken,
        r.rest,
        r.all,
        r.left,
        subst (λ (xs : List ℕ). SaysOfMap plan format xs [] picture picture' (Err ReadFault)) (append-nil d.taken) (d.says [] (λ failed. refl)),
      )
  says_of_input (Err ImageFault) d =
      let r = rest_is d.taken d.consumed in (r.rest, r.left, whole (Err ImageFault) d r (λ end. at_end x d.taken left' end r))
  says_of_input (Err NotesFault) d = absurd (d.says [] (λ cannot. refl))

-- no notes are written that could fail
module _ {source source' picture picture' : FaultCounts} where
  pub is_finished : (answer : PlanAnswer) → CountsBy (stop_blame answer) (three_counts source picture no_counts) (three_counts source' picture' no_counts)
      → Stayed source.faults source'.faults → Stayed picture.faults picture'.faults → IsFinished answer
  is_finished (Ok totals) counts stayed drawn = tt
  is_finished (Err (Refused stop)) counts stayed drawn = tt
  is_finished (Err ReadFault) counts stayed drawn = omega (arith, counts.source.cause, stayed.0, stayed.1)
  is_finished (Err ImageFault) counts stayed drawn = omega (arith, counts.image.cause, drawn.0, drawn.1)
  is_finished (Err NotesFault) counts stayed drawn = omega (arith, counts.notes.cause)

  pub no_notes_fault : (fault : Stopped RefusedCapture) → CountsBy (stop_blame {A = Unit {0}} (Err fault)) (three_counts source picture no_counts) (three_counts source' picture' no_counts)
      → ¬ (fault ≡ NotesFault)
  no_notes_fault NotesFault counts is = omega (arith, counts.notes.cause)
  no_notes_fault ReadFault counts is = absurd (cc)
  no_notes_fault ImageFault counts is = absurd (cc)
  no_notes_fault (Refused stop) counts is = absurd (cc)
