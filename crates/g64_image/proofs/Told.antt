-- What the answer says of a source that tells its bytes.
use Rattle.std.specs.Prelude.{◌≡◌, ◌≤◌, ℕ, ◌+◌, List, [], ◌++◌, drop, length, Option, Some, None, Ok, Err}
use Rattle.std.proofs.Common.{ap, append-nil, arith, inl, inr, length-append, subst, sym, ◌∙◌}
use Rattle.std.proofs.lemmas.Bool.{cases_lt}
use Rattle.std.proofs.lemmas.List.{drop_all}
use Rattle.std.proofs.Math.Seq.{drop-append_seam}
use Rattle.std.specs.Io.KnownBytes.{Consumes}
use Rattle.sector_images.specs.declared.format.Format.{Format}
use Rattle.g64_image.specs.Answers.{CutOfFile, FromAnswer, IsTakenFile, IsWholeFile, ReadsFile, SaysOfFileBytes, WroteAll}
use Rattle.g64_image.specs.Faults.{MOST_BYTES, first_fault}
use Rattle.flux_engine.specs.declared.fault.Stopped.TheVariants.{ReadFault, ImageFault, NotesFault, Refused}
use Rattle.flux_engine.specs.declared.track_part.PartFault.TheVariants.{ImageFault as PartImageFault, NotesFault as PartNotesFault}
use Rattle.g64_image.specs.declared.fault.G64Fault.{G64Fault}
use Rattle.g64_image.specs.declared.fault.G64Fault.TheVariants.{TooLarge}
use Rattle.g64_image.proofs.Sound.{too_large}

-- a file that was taken to its end is all bytes
told-whole : (format : Format) (x taken : List ℕ) (left' : Option (List ℕ)) → Consumes (Some x) left' taken → IsWholeFile format taken left'
    → (taken ≡ x) × (first_fault format x ≡ None) × (left' ≡ Some [])
told-whole format x taken None consumed whole = absurd consumed
told-whole format x taken (Some rest) consumed whole =
    let same : x ≡ taken = consumed ∙ ap (λ l. taken ++ l) whole.ended ∙ append-nil taken in
    (sym same, ap (first_fault format) same ∙ whole.no_fault, ap Some whole.ended)

-- what is refused of the bytes taken is refused of all
told-refused : (format : Format) (x taken : List ℕ) (left' : Option (List ℕ)) (fault : G64Fault) → Consumes (Some x) left' taken → IsTakenFile taken left'
    → first_fault format taken ≡ Some fault → (first_fault format x ≡ Some fault) × (left' ≡ Some (drop (MOST_BYTES + 1) x))
told-refused format x taken None fault consumed file is = absurd consumed
told-refused format x taken (Some rest) fault consumed file is =
    elim (cases_lt (length taken) (MOST_BYTES + 1)) [
      | inl below ↦
          let few : length taken ≤ MOST_BYTES = omega (arith, below) in
          let none : rest ≡ [] = file.ended few in
          let same : x ≡ taken = consumed ∙ ap (λ l. taken ++ l) none ∙ append-nil taken in
          (ap (first_fault format) same ∙ is, ap Some (none ∙ sym (drop_all (MOST_BYTES + 1) x (omega (arith, few, ap length same)))))
      | inr least ↦
          let all : length taken ≡ MOST_BYTES + 1 = omega (arith, least, file.most) in
          let large : Some TooLarge ≡ Some fault = sym (too_large format taken (omega (arith, all))) ∙ is in (
            too_large format x (omega (arith, ap length consumed, length-append taken rest, all)) ∙ large,
            ap Some (sym (ap (λ n. drop n x) (sym all) ∙ ap (drop (length taken)) consumed ∙ drop-append_seam taken rest)),
          )
    ]

pub told-file : (format : Format) (x : List ℕ) (left' image image' notes notes' : Option (List ℕ)) (answer : FromAnswer)
    → ReadsFile format (Some x) left' image image' notes notes' answer → SaysOfFileBytes format x left' image image' notes notes' answer
told-file format x left' image image' notes notes' (Ok totals) f =
    let w = told-whole format x f.taken left' f.consumed f.says.1 in
    (f.says.0, w.1, w.2, subst (λ y. WroteAll format y image image' notes notes' f.says.0) w.0 f.says.2, f.says.3)
told-file format x left' image image' notes notes' (Err (Refused fault)) f =
    let w = told-refused format x f.taken left' fault f.consumed f.says.0 f.says.1 in
    (w.0, w.1, f.says.2, f.says.3)
told-file format x left' image image' notes notes' (Err ReadFault) f = (f.taken, f.consumed, f.says.0, f.says.1, f.says.2)
told-file format x left' image image' notes notes' (Err ImageFault) f =
    let w = told-whole format x f.taken left' f.consumed f.says.0 in
    (w.1, w.2, subst (λ y. CutOfFile PartImageFault format y image image' notes notes') w.0 f.says.1)
told-file format x left' image image' notes notes' (Err NotesFault) f =
    let w = told-whole format x f.taken left' f.consumed f.says.0 in
    (w.1, w.2, subst (λ y. CutOfFile PartNotesFault format y image image' notes notes') w.0 f.says.1)
