-- What an answer says of the input that a source tells.
use Rattle.std.specs.Prelude.{◌≡◌, ℕ, List, [], Option, Some, None, Ok, Err, refl}
use Rattle.std.specs.Io.KnownBytes.{Consumes, IsAtEnd}
use Rattle.std.proofs.Common.{sym, subst, ◌∙◌, arith, append-nil}
use Rattle.sector_images.specs.declared.format.Format.{Format}
use Rattle.library_calls.specs.Answers.{Answer, DecodesDisk, SaysOfDisk, SaysOfInput, IsOfBytesAtHand, EngineCause, IsWholeOrRefused}
use Rattle.flux_engine.specs.Answers.{Stayed}
use Rattle.flux_engine.specs.lemmas.ReadLaws.{Rest, rest_of, some_same}
use Rattle.library_calls.specs.declared.fault.EngineFault.TheVariants.{ReadFault, ImageFault, NotesFault, Refused}

at_end : (x taken : List ℕ) (left' : Option (List ℕ)) → IsAtEnd left' → (r : Rest x left' taken) → r.rest ≡ []
at_end x taken None end r = absurd (cc)
at_end x taken (Some rest) end r = (let same : rest ≡ r.rest = some_same rest r.rest r.left in sym same ∙ end)

module _ (format : Format) (x : List ℕ) (left left' image image' notes notes' : Option (List ℕ)) (told : left ≡ Some x) where
  abbrev Decodes : Answer → Type 0
  Decodes answer = DecodesDisk format left left' image image' notes notes' answer

  rest_is : (taken : List ℕ) → Consumes left left' taken → Rest x left' taken
  rest_is taken consumed = rest_of x taken left' (subst (λ (l : Option (List ℕ)). Consumes l left' taken) told consumed)

  whole : (answer : Answer) (d : Decodes answer) (r : Rest x left' d.taken) → (IsOfBytesAtHand answer → r.rest ≡ [])
      → SaysOfDisk format x r.rest image image' notes notes' answer
  whole answer d r at_hand =
      subst (λ (xs : List ℕ). SaysOfDisk format xs r.rest image image' notes notes' answer) (sym r.all) (d.says r.rest at_hand)

  pub says_of_input : (answer : Answer) → Decodes answer → SaysOfInput format x left' image image' notes notes' answer
  says_of_input (Ok totals) d = (let r = rest_is d.taken d.consumed in (r.rest, r.left, whole (Ok totals) d r (λ cannot. absurd cannot)))
  says_of_input (Err (Refused track block fault)) d =
      let r = rest_is d.taken d.consumed in
      (r.rest, r.left, whole (Err (Refused track block fault)) d r (λ truncated. at_end x d.taken left' (d.ended truncated) r))
  says_of_input (Err ReadFault) d =
      let r = rest_is d.taken d.consumed in (
        d.taken,
        r.rest,
        r.all,
        r.left,
        subst (λ (xs : List ℕ). SaysOfDisk format xs [] image image' notes notes' (Err ReadFault)) (append-nil d.taken) (d.says [] (λ failed. refl)),
      )
  says_of_input (Err ImageFault) d = (let r = rest_is d.taken d.consumed in (r.rest, r.left, whole (Err ImageFault) d r (λ cannot. absurd cannot)))
  says_of_input (Err NotesFault) d = (let r = rest_is d.taken d.consumed in (r.rest, r.left, whole (Err NotesFault) d r (λ cannot. absurd cannot)))

pub whole_or_refused : (s s' i i' n n' : ℕ) (answer : Answer) → EngineCause s s' i i' n n' answer → Stayed s s' → Stayed i i' → Stayed n n' → IsWholeOrRefused answer
whole_or_refused s s' i i' n n' (Ok totals) cause source image notes = tt
whole_or_refused s s' i i' n n' (Err (Refused track block fault)) cause source image notes = tt
whole_or_refused s s' i i' n n' (Err ReadFault) cause source image notes = omega (arith, cause, source.0, source.1)
whole_or_refused s s' i i' n n' (Err ImageFault) cause source image notes = omega (arith, cause, image.0, image.1)
whole_or_refused s s' i i' n n' (Err NotesFault) cause source image notes = omega (arith, cause, notes.0, notes.1)
