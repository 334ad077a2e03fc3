-- Whom an answer blames: of which object of the outside it tells a fault.
use Rattle.std.specs.Prelude.{Bool, true, false, Result, Ok, Err}
use Rattle.flux_base.specs.Blames.{Blame, no_one, the_source, the_image, the_notes}
use Rattle.kryo_stream.specs.declared.fault.CaptureFault.{CaptureFault}
use Rattle.kryo_stream.specs.declared.fault.CaptureFault.TheVariants.{ReadFault as UnreadCapture}
use Rattle.flux_engine.specs.declared.fault.Stopped.{Stopped}
use Rattle.flux_engine.specs.declared.fault.Stopped.TheVariants.{ReadFault, ImageFault}
use Rattle.flux_engine.specs.declared.fault.Stopped.TheVariants.{NotesFault}
use Rattle.flux_engine.specs.declared.track_part.PartFault.{PartFault}
use Rattle.flux_engine.specs.declared.track_part.PartFault.TheVariants.{ImageFault as PartImageFault}
use Rattle.flux_engine.specs.declared.track_part.PartFault.TheVariants.{NotesFault as PartNotesFault}
use Rattle.flux_engine.specs.declared.write_fault.WriteFault.{WriteFault}
use Rattle.flux_engine.specs.declared.write_fault.WriteFault.TheVariants.{ReadFault as UnreadImage}
use Rattle.flux_engine.specs.declared.write_fault.WriteFault.TheVariants.{ImageFault as UnwrittenStreams}

-- a stream was not read for its source's sake
abbrev pub is_unread : {A : Type 0} → Result A CaptureFault → Bool
is_unread (Err UnreadCapture) = true
is_unread _ = false

abbrev pub part_blame : {A : Type 0} → Result A PartFault → Blame
part_blame (Ok _) = no_one
part_blame (Err PartImageFault) = the_image
part_blame (Err PartNotesFault) = the_notes

-- reading stopped, whatever it is that may be refused
abbrev pub stop_blame : {A R : Type 0} → Result A (Stopped R) → Blame
stop_blame (Err ReadFault) = the_source
stop_blame (Err ImageFault) = the_image
stop_blame (Err NotesFault) = the_notes
stop_blame _ = no_one

-- the same of the sinks alone, where it is not known of what object the streams come, or where
-- none of its faults stops reading: a file that fails is told
abbrev pub sink_blame : {A R : Type 0} → Result A (Stopped R) → Blame
sink_blame (Err ImageFault) = the_image
sink_blame (Err NotesFault) = the_notes
sink_blame _ = no_one

-- streams are written to the sink of an image
abbrev pub write_blame : {A : Type 0} → Result A WriteFault → Blame
write_blame (Err UnreadImage) = the_source
write_blame (Err UnwrittenStreams) = the_image
write_blame _ = no_one
