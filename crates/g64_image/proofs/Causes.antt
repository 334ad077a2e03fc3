-- Where a fault may come, by the counts of the outside.
use Rattle.std.specs.Prelude.{Ok, Err}
use Rattle.std.proofs.Common.{arith}
use Rattle.flux_base.specs.Blames.{CountsBy, three_counts}
use Rattle.flux_base.specs.Counts.{FaultCounts}
use Rattle.flux_engine.specs.Answers.{Stayed}
use Rattle.flux_engine.specs.Blamed.{stop_blame}
use Rattle.g64_image.specs.Answers.{FromAnswer, FromCause, IsReadOrRefused}
use Rattle.flux_engine.specs.declared.fault.Stopped.TheVariants.{ReadFault, ImageFault, NotesFault, Refused}

module _ {source source' image image' notes notes' : FaultCounts} where
  pub from_cause : (answer : FromAnswer) → CountsBy (stop_blame answer) (three_counts source image notes) (three_counts source' image' notes')
      → FromCause source.faults source'.faults image.faults image'.faults notes.faults notes'.faults answer
  from_cause (Ok totals) counts = tt
  from_cause (Err ReadFault) counts = counts.source.cause
  from_cause (Err ImageFault) counts = counts.image.cause
  from_cause (Err NotesFault) counts = counts.notes.cause
  from_cause (Err (Refused fault)) counts = tt

  pub read_or_refused : (answer : FromAnswer) → CountsBy (stop_blame answer) (three_counts source image notes) (three_counts source' image' notes')
      → Stayed source.faults source'.faults → Stayed image.faults image'.faults → Stayed notes.faults notes'.faults → IsReadOrRefused answer
  read_or_refused (Ok totals) counts read written told = tt
  read_or_refused (Err ReadFault) counts read written told = absurd (omega (arith, counts.source.cause, read.0, read.1))
  read_or_refused (Err ImageFault) counts read written told = absurd (omega (arith, counts.image.cause, written.0, written.1))
  read_or_refused (Err NotesFault) counts read written told = absurd (omega (arith, counts.notes.cause, told.0, told.1))
  read_or_refused (Err (Refused fault)) counts read written told = tt
