-- The counts of the outside over the steps of a disk.
use Rattle.std.specs.Prelude.{◌≡◌, ℕ, Ok, Err, refl}
use Rattle.std.proofs.Common.{arith}
use Rattle.flux_base.specs.Blames.{CountsBy, OutsideCounts, no_one, three_counts}
use Rattle.flux_base.specs.Counts.{FaultCounts}
use Rattle.flux_engine.specs.Answers.{Stayed}
use Rattle.flux_engine.specs.Blamed.{part_blame, sink_blame, stop_blame}
use Rattle.flux_engine.specs.PlanAnswers.{IsFinished, PlanAnswer, of_part, of_stream}
use Rattle.kryo_stream.specs.declared.fault.CaptureFault.{CaptureFault}
use Rattle.kryo_stream.specs.declared.fault.CaptureFault.TheVariants.{ReadFault as UnreadCapture, Refused as RefusedStream}
use Rattle.flux_engine.specs.declared.fault.RefusedCapture.{RefusedCapture}
use Rattle.flux_engine.specs.declared.fault.Stopped.TheVariants.{ReadFault, ImageFault, NotesFault, Refused}
use Rattle.flux_engine.specs.declared.track_part.PartFault.{PartFault}
use Rattle.flux_engine.specs.declared.track_part.PartFault.TheVariants.{ImageFault as PartImageFault, NotesFault as PartNotesFault}

-- so over objects that do not fail there is no other answer
pub is_finished : (answer : PlanAnswer) {source source' image image' notes notes' : FaultCounts}
    → CountsBy (stop_blame answer) (three_counts source image notes) (three_counts source' image' notes')
    → Stayed source.faults source'.faults → Stayed image.faults image'.faults → Stayed notes.faults notes'.faults → IsFinished answer
is_finished (Ok totals) counts source image notes = tt
is_finished (Err (Refused stop)) counts source image notes = tt
is_finished (Err ReadFault) counts source image notes = omega (arith, counts.source.cause, source.0, source.1)
is_finished (Err ImageFault) counts source image notes = omega (arith, counts.image.cause, image.0, image.1)
is_finished (Err NotesFault) counts source image notes = omega (arith, counts.notes.cause, notes.0, notes.1)

-- a stream of a plan was not read: no sink failed
pub stream_blames : (A : Type 0) (number capture : ℕ) (fault : CaptureFault) → sink_blame {A = A} (Err (of_stream number capture fault)) ≡ no_one
stream_blames A number capture UnreadCapture = refl
stream_blames A number capture (RefusedStream block fault) = refl

-- a sink failed as a track was written
pub sink_blames : (A B : Type 0) {before after : OutsideCounts} (fault : PartFault) → CountsBy (part_blame {A = A} (Err fault)) before after
    → CountsBy (sink_blame {A = B} {R = RefusedCapture} (Err (of_part fault))) before after
sink_blames A B PartImageFault counts = counts
sink_blames A B PartNotesFault counts = counts
