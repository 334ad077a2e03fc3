-- What decoding a set may answer: what reading a disk by the plan of a set may.
use Rattle.std.specs.Prelude.{ℕ, List, Option, Result, Ok, Err}
use Rattle.flux_base.specs.Outside.{Rose}
use Rattle.sector_images.specs.declared.format.Format.{Format}
use Rattle.flux_engine.specs.PlanAnswers.{DecodesPlanned, IsFinished, PlanAnswer}
use Rattle.flux_engine.specs.PlanAnswers.{SaysOfPlannedInput}
use Rattle.flux_engine.specs.declared.fault.Stopped.TheVariants.{ReadFault as PlanUnread}
use Rattle.flux_engine.specs.declared.fault.Stopped.TheVariants.{ImageFault as PlanUnwritten}
use Rattle.flux_engine.specs.declared.fault.Stopped.TheVariants.{NotesFault as PlanUntold}
use Rattle.flux_engine.specs.declared.fault.Stopped.TheVariants.{Refused as PlanRefused}
use Rattle.library_calls.specs.declared.fault.SetFault.{SetFault}
use Rattle.library_calls.specs.declared.fault.SetFault.TheVariants.{ReadFault, ImageFault}
use Rattle.library_calls.specs.declared.fault.SetFault.TheVariants.{NotesFault, Refused}
use Rattle.sector_report.specs.declared.totals.Totals.{Totals}
use Rattle.library_calls.specs.Sets.{set_part_of}
use Rattle.flux_engine.specs.Plans.{set_plan}

abbrev pub SetAnswer : Type 0
SetAnswer = Result Totals SetFault

-- the answer of reading the disk by the plan, of which it is that for the set
abbrev pub plan_answer : SetAnswer → PlanAnswer
plan_answer (Ok totals) = Ok totals
plan_answer (Err ReadFault) = Err PlanUnread
plan_answer (Err ImageFault) = Err PlanUnwritten
plan_answer (Err NotesFault) = Err PlanUntold
plan_answer (Err (Refused track capture block fault)) =
    Err (PlanRefused
    (record { track = track; capture = capture; block = block; fault = fault }))

-- A call that decodes a set from a fresh room.
abbrev pub DecodesSet : Format → (count : ℕ)
    → (left left' image image' notes notes' : Option (List ℕ)) → SetAnswer → Type 0
DecodesSet format count left left' image image' notes notes' answer =
    DecodesPlanned (set_plan count) set_part_of format left left' image image' notes notes'
    (plan_answer answer)

-- A source that tells its bytes x.
abbrev pub SaysOfSetInput : Format → (count : ℕ) → (x : List ℕ)
    → (left' image image' notes notes' : Option (List ℕ)) → SetAnswer → Type 0
SaysOfSetInput format count x left' image image' notes notes' answer =
    SaysOfPlannedInput (set_plan count) set_part_of format x left' image image' notes notes'
    (plan_answer answer)

-- each fault of an object of the outside comes only where its count rose
abbrev pub SetCause : (source source' image image' notes notes' : ℕ) → SetAnswer → Type 0
SetCause source source' image image' notes notes' (Err ReadFault) = Rose source source'
SetCause source source' image image' notes notes' (Err ImageFault) = Rose image image'
SetCause source source' image image' notes notes' (Err NotesFault) = Rose notes notes'
SetCause source source' image image' notes notes' _ = Unit {0}

-- the whole input was decoded, or a stream of it has a fault
abbrev pub IsWholeOrRefused : SetAnswer → Type 0
IsWholeOrRefused answer = IsFinished (plan_answer answer)
