-- Where a fault may come, by the counts of the outside.
use Rattle.std.specs.Prelude.{◌≡◌, Ok, Err}
use Rattle.std.proofs.Common.{sym, subst}
use Rattle.flux_base.specs.Blames.{CountsBy, OutsideCounts, three_counts}
use Rattle.flux_base.specs.Counts.{FaultCounts}
use Rattle.flux_engine.specs.Blamed.{stop_blame}
use Rattle.flux_engine.specs.PlanAnswers.{PlanAnswer}
use Rattle.library_calls.specs.declared.fault.SetFault.TheVariants.{ReadFault, ImageFault, NotesFault, Refused}
use Rattle.library_calls.specs.SetAnswers.{SetAnswer, SetCause, plan_answer}

pub set_cause : (answer : SetAnswer) {source source' image image' notes notes' : FaultCounts}
    → CountsBy (stop_blame (plan_answer answer)) (three_counts source image notes) (three_counts source' image' notes')
    → SetCause source.faults source'.faults image.faults image'.faults notes.faults notes'.faults answer
set_cause (Ok totals) counts = tt
set_cause (Err ReadFault) counts = counts.source.cause
set_cause (Err ImageFault) counts = counts.image.cause
set_cause (Err NotesFault) counts = counts.notes.cause
set_cause (Err (Refused track capture block fault)) counts = tt

-- one answer blames as the other
pub same_blames : {before after : OutsideCounts} (a b : PlanAnswer) → a ≡ b → CountsBy (stop_blame b) before after → CountsBy (stop_blame a) before after
same_blames {before = before} {after = after} a b same counts = subst (λ (answer : PlanAnswer). CountsBy (stop_blame answer) before after) (sym same) counts
