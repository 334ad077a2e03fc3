-- The counts of the outside where a track or a disk of one stream is decoded.
use Rattle.std.specs.Prelude.{ℕ, Ok, Err}
use Rattle.flux_base.specs.Blames.{CountsBy, OutsideCounts, three_counts}
use Rattle.flux_base.specs.Counts.{Counts, FaultCounts}
use Rattle.flux_base.specs.lemmas.Counting.{Counts-none}
use Rattle.library_calls.specs.Answers.{Answer, CaptureCause, EngineCause, of_capture, of_sink, engine_blame, engine_answer}
use Rattle.flux_engine.specs.Answers.{CaptureAnswer}
use Rattle.flux_engine.specs.Blamed.{is_unread, part_blame, stop_blame}
use Rattle.flux_engine.specs.PlanAnswers.{PlanAnswer}
use Rattle.kryo_stream.specs.declared.fault.CaptureFault.{CaptureFault}
use Rattle.kryo_stream.specs.declared.fault.CaptureFault.TheVariants.{ReadFault as UnreadCapture, Refused as RefusedStream}
use Rattle.library_calls.specs.declared.fault.EngineFault.TheVariants.{ReadFault as EngineReadFault, ImageFault as EngineImageFault, NotesFault as EngineNotesFault, Refused as EngineRefused}
use Rattle.flux_engine.specs.declared.fault.Stopped.TheVariants.{ReadFault, ImageFault, NotesFault, Refused}
use Rattle.flux_engine.specs.declared.track_part.PartFault.{PartFault}
use Rattle.flux_engine.specs.declared.track_part.PartFault.TheVariants.{ImageFault as PartImageFault, NotesFault as PartNotesFault}

-- what is blamed on an object is told where its count rose
pub capture_cause : (answer : CaptureAnswer) {source source' : FaultCounts} → Counts (is_unread answer) source source' → CaptureCause source.faults source'.faults answer
capture_cause (Ok u) counts = tt
capture_cause (Err UnreadCapture) counts = counts.cause
capture_cause (Err (RefusedStream block fault)) counts = tt

pub engine_cause : (answer : Answer) {source source' image image' notes notes' : FaultCounts}
    → CountsBy (engine_blame answer) (three_counts source image notes) (three_counts source' image' notes')
    → EngineCause source.faults source'.faults image.faults image'.faults notes.faults notes'.faults answer
engine_cause (Ok totals) counts = tt
engine_cause (Err EngineReadFault) counts = counts.source.cause
engine_cause (Err EngineImageFault) counts = counts.image.cause
engine_cause (Err EngineNotesFault) counts = counts.notes.cause
engine_cause (Err (EngineRefused track block fault)) counts = tt

-- the one stream of a track was not read
pub track_blames : (A B : Type 0) {source source' : FaultCounts} (image notes : FaultCounts) (number : ℕ) (fault : CaptureFault)
    → Counts (is_unread {A = A} (Err fault)) source source'
    → CountsBy (engine_blame {A = B} (Err (of_capture number fault))) (three_counts source image notes) (three_counts source' image notes)
track_blames A B image notes number UnreadCapture counts = record { source = counts; image = Counts-none image; notes = Counts-none notes }
track_blames A B image notes number (RefusedStream block fault) counts = record { source = counts; image = Counts-none image; notes = Counts-none notes }

pub track_sink_blames : (A B : Type 0) {before after : OutsideCounts} (fault : PartFault) → CountsBy (part_blame {A = A} (Err fault)) before after
    → CountsBy (engine_blame {A = B} (Err (of_sink fault))) before after
track_sink_blames A B PartImageFault counts = counts
track_sink_blames A B PartNotesFault counts = counts

-- the answer for a disk of which each track has one stream
pub engine_blames : {before after : OutsideCounts} (answer : PlanAnswer) → CountsBy (stop_blame answer) before after
    → CountsBy (engine_blame (engine_answer answer)) before after
engine_blames (Ok _) counts = counts
engine_blames (Err ReadFault) counts = counts
engine_blames (Err ImageFault) counts = counts
engine_blames (Err NotesFault) counts = counts
engine_blames (Err (Refused stop)) counts = counts
