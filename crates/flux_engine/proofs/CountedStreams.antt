-- What came of a source, where it is known too how often that failed.
use Rattle.std.specs.Prelude.{ℕ, Bool, List, Option, Result, Ok, Err, IfErr, OnOk}
use Rattle.std.proofs.Common.{inl, inr, sym, subst}
use Rattle.flux_base.specs.Blames.{CountsBy, is_source, no_counts, three_counts}
use Rattle.flux_base.specs.Counts.{Counts, FaultCounts}
use Rattle.kryo_stream.specs.Reads.{SourceMoment}
use Rattle.kryo_stream.specs.declared.fault.CaptureFault.{CaptureFault}
use Rattle.kryo_stream.specs.declared.fault.CaptureFault.TheVariants.{ReadFault as UnreadCapture, Refused as RefusedStream}
use Rattle.sector_images.specs.declared.format.Format.{Format}
use Rattle.sector_report.specs.declared.totals.Totals.{Totals}
use Rattle.flux_engine.specs.Blamed.{is_unread, sink_blame, stop_blame}
use Rattle.flux_engine.specs.LoopProgress.{EndedBySink, EndedByStream, EndsLoop, HasWritten}
use Rattle.flux_engine.specs.PlanAnswers.{of_part, of_stream}
use Rattle.flux_engine.specs.Plans.{PartOf, Seen}
use Rattle.flux_engine.specs.Room.{RoomState}
use Rattle.flux_engine.specs.SourceStreams.{HaveCome, HaveComeCounted, HaveEnded, HaveEndedCounted}
use Rattle.flux_engine.specs.declared.fault.RefusedCapture.{RefusedCapture}
use Rattle.flux_engine.specs.declared.fault.Stopped.{Stopped}
use Rattle.flux_engine.specs.declared.fault.Stopped.TheVariants.{ReadFault, ImageFault, NotesFault, Refused}
use Rattle.flux_engine.specs.declared.plan.Plan.{Plan}
use Rattle.flux_engine.specs.declared.track_part.PartFault.{PartFault}
use Rattle.flux_engine.specs.declared.track_part.PartFault.TheVariants.{ImageFault as PartImageFault, NotesFault as PartNotesFault}

module _ (plan : Plan) (of : PartOf) (format : Format) (start now : SourceMoment) (before after : FaultCounts) (image image' notes notes' : Option (List ℕ)) (room : RoomState) where
  abbrev Came : List ℕ → Bool → List Seen → Type 0
  Came = HaveComeCounted plan format start now before after

  abbrev Ended : List Seen → CaptureFault → Type 0
  Ended = HaveEndedCounted plan format start now before after

  -- what was written, and how the loop ended, whatever the counts are
  written-uncounted : (n : ℕ) (totals : Totals) → HasWritten plan of format Came image image' notes notes' room n totals
      → HasWritten plan of format (HaveCome plan format start now) image image' notes notes' room n totals
  written-uncounted n totals h = record {
    streams = h.streams;
    all = h.all;
    came = h.came.0;
    whole = h.whole;
    parts = h.parts;
    many = h.many;
    each = h.each;
    image_grew = h.image_grew;
    notes_grew = h.notes_grew;
    totals_are = h.totals_are;
    format_is = h.format_is;
    unread_is = h.unread_is;
    lost_is = h.lost_is;
    others = h.others;
    many_others = h.many_others;
    others_are = h.others_are;
    told_is = h.told_is;
    whole_is = h.whole_is;
    sound = h.sound;
  }

  pub all-uncounted : (n : ℕ) (totals : Totals) (answer : Result (Unit {0}) (Stopped RefusedCapture)) → OnOk answer (HasWritten plan of format Came image image' notes notes' room n totals)
      → OnOk answer (HasWritten plan of format (HaveCome plan format start now) image image' notes notes' room n totals)
  all-uncounted n totals (Ok u) h = written-uncounted n totals h
  all-uncounted n totals (Err fault) h = tt

  stream-uncounted : (totals : Totals) (fault : Stopped RefusedCapture) → EndedByStream plan of format Ended image image' notes notes' totals fault
      → EndedByStream plan of format (HaveEnded plan format start now) image image' notes notes' totals fault
  stream-uncounted totals fault e = record {
    number = e.number;
    low = e.low;
    streams = e.streams;
    all = e.all;
    parts = e.parts;
    many = e.many;
    each = e.each;
    image_grew = e.image_grew;
    notes_grew = e.notes_grew;
    totals_are = e.totals_are;
    ended = record {
      capture = e.ended.capture;
      few = e.ended.few;
      more = e.ended.more;
      many_more = e.ended.many_more;
      whole = e.ended.whole;
      cause = e.ended.cause;
      ended = e.ended.ended.0;
      is = e.ended.is;
    };
  }

  sink-uncounted : (fault : Stopped RefusedCapture) → EndedBySink plan of format Came image image' notes notes' room fault
      → EndedBySink plan of format (HaveCome plan format start now) image image' notes notes' room fault
  sink-uncounted fault e = record {
    streams = e.streams;
    parts = e.parts;
    next = e.next;
    low = e.low;
    all = e.all;
    came = e.came.0;
    whole = e.whole;
    each = e.each;
    cause = e.cause;
    wrote = e.wrote;
    is = e.is;
  }

  end-uncounted : (totals : Totals) (fault : Stopped RefusedCapture) → EndsLoop plan of format Came Ended image image' notes notes' room totals fault
      → EndsLoop plan of format (HaveCome plan format start now) (HaveEnded plan format start now) image image' notes notes' room totals fault
  end-uncounted totals fault (inl e) = inl (stream-uncounted totals fault e)
  end-uncounted totals fault (inr e) = inr (sink-uncounted fault e)

  pub ends-uncounted : (totals : Totals) (answer : Result (Unit {0}) (Stopped RefusedCapture)) → IfErr answer (EndsLoop plan of format Came Ended image image' notes notes' room totals)
      → IfErr answer (EndsLoop plan of format (HaveCome plan format start now) (HaveEnded plan format start now) image image' notes notes' room totals)
  ends-uncounted totals (Ok u) e = tt
  ends-uncounted totals (Err fault) e = end-uncounted totals fault e

  -- the source failed where an answer blames it, and else not
  by-stream : (A : Type 0) (number capture : ℕ) (cause : CaptureFault) → Counts (is_unread {A = Unit {0}} (Err cause)) before after
      → Counts (is_source (stop_blame {A = A} (Err (of_stream number capture cause)))) before after
  by-stream A number capture UnreadCapture counts = counts
  by-stream A number capture (RefusedStream block fault) counts = counts

  by-sink : (A : Type 0) (cause : PartFault) → Counts (is_unread {A = Unit {0}} (Ok tt)) before after → Counts (is_source (stop_blame {A = A} {R = RefusedCapture} (Err (of_part cause)))) before after
  by-sink A PartImageFault counts = counts
  by-sink A PartNotesFault counts = counts

  by-fault : (totals : Totals) (fault : Stopped RefusedCapture) → EndsLoop plan of format Came Ended image image' notes notes' room totals fault
      → Counts (is_source (stop_blame {A = Unit {0}} (Err fault))) before after
  by-fault totals fault (inl e) =
      subst (λ (f : Stopped RefusedCapture). Counts (is_source (stop_blame {A = Unit {0}} (Err f))) before after) (sym e.ended.is)
      (by-stream (Unit {0}) e.number e.ended.capture e.ended.cause e.ended.ended.1)
  by-fault totals fault (inr e) =
      subst (λ (f : Stopped RefusedCapture). Counts (is_source (stop_blame {A = Unit {0}} (Err f))) before after) (sym e.is) (by-sink (Unit {0}) e.cause e.came.1)

  pub source-counts : (n : ℕ) (totals : Totals) (answer : Result (Unit {0}) (Stopped RefusedCapture)) → OnOk answer (HasWritten plan of format Came image image' notes notes' room n totals)
      → IfErr answer (EndsLoop plan of format Came Ended image image' notes notes' room totals) → Counts (is_source (stop_blame answer)) before after
  source-counts n totals (Ok u) h e = h.came.1
  source-counts n totals (Err fault) h e = by-fault totals fault e

-- with what the sinks did
pub and-sinks : {source source' image image' notes notes' : FaultCounts} (answer : Result (Unit {0}) (Stopped RefusedCapture)) → Counts (is_source (stop_blame answer)) source source'
    → CountsBy (sink_blame answer) (three_counts no_counts image notes) (three_counts no_counts image' notes')
    → CountsBy (stop_blame answer) (three_counts source image notes) (three_counts source' image' notes')
and-sinks (Ok u) source sinks = record { source = source; image = sinks.image; notes = sinks.notes }
and-sinks (Err ReadFault) source sinks = record { source = source; image = sinks.image; notes = sinks.notes }
and-sinks (Err ImageFault) source sinks = record { source = source; image = sinks.image; notes = sinks.notes }
and-sinks (Err NotesFault) source sinks = record { source = source; image = sinks.image; notes = sinks.notes }
and-sinks (Err (Refused stop)) source sinks = record { source = source; image = sinks.image; notes = sinks.notes }
