-- From a track's one stream that was read, and the track that was written out, to what decoding the track says.
use Rattle.std.specs.Prelude.{◌≡◌, ◌++◌, ℕ, Bool, List, [], length, Option, Result, Ok, Err, refl}
use Rattle.std.proofs.Common.{ap, subst, sym, ◌∙◌}
use Rattle.flux_base.specs.declared.track.TrackId.{TrackId}
use Rattle.kryo_stream.specs.Outcome.{input_of}
use Rattle.sector_images.specs.declared.format.Format.{Format}
use Rattle.sector_report.specs.declared.totals.Totals.{Totals}
use Rattle.turn_merge.specs.Book.{Knowledge, SameShape, StandsFor}
use Rattle.turn_merge.specs.Readings.{NotedReading}
use Rattle.library_calls.specs.Answers.{Answer, DecodesTrack, IsTruncated, ReadsCapture, SaysOfSinks, SaysOfStream, of_capture, of_sink}
use Rattle.flux_engine.specs.Answers.{CaptureAnswer, IsTrackStream}
use Rattle.flux_engine.specs.Recordings.{sectors_of, track_at}
use Rattle.flux_engine.specs.Writing.{Knows}
use Rattle.disk_recordings.specs.declared.sectors.Sectors.{Sectors}
use Rattle.flux_engine.specs.Room.{RoomState}
use Rattle.library_calls.proofs.OneCapture.{one_capture}
use Rattle.flux_engine.specs.TrackParts.{WritesPart}
use Rattle.library_calls.specs.Disks.{IsPart}
use Rattle.flux_engine.specs.Tracks.{TrackPart, part_of}
use Rattle.kryo_stream.specs.declared.fault.CaptureFault.{CaptureFault}
use Rattle.kryo_stream.specs.declared.fault.CaptureFault.TheVariants.{ReadFault as UnreadCapture, Refused as RefusedStream}
use Rattle.flux_engine.specs.declared.track_part.PartFault.{PartFault}
use Rattle.flux_engine.specs.declared.track_part.PartFault.TheVariants.{ImageFault as PartImageFault, NotesFault as PartNotesFault}

-- what writing the track answers
abbrev pub of_part : Result Totals PartFault → Answer
of_part (Ok totals) = Ok totals
of_part (Err fault) = Err (of_sink fault)

says_stream : (number : ℕ) (answer : Result Totals PartFault) (x times indexes stays : List ℕ) → IsTrackStream x times indexes stays
    → SaysOfStream number (of_part answer) x times indexes stays
says_stream number (Ok totals) x times indexes stays s = s
says_stream number (Err PartImageFault) x times indexes stays s = s
says_stream number (Err PartNotesFault) x times indexes stays s = s

not_truncated : (answer : Result Totals PartFault) → IsTruncated (of_part answer) → ⊥
not_truncated (Ok totals) cannot = cannot
not_truncated (Err PartImageFault) cannot = cannot
not_truncated (Err PartNotesFault) cannot = cannot

says_sinks : (Is : TrackPart → Type 0) (part : TrackPart) (image image' notes notes' : Option (List ℕ)) (answer : Result Totals PartFault) → Is part
    → WritesPart part image image' notes notes' answer → SaysOfSinks Is image image' notes notes' (of_part answer)
says_sinks Is part image image' notes notes' (Ok totals) is w = (part, is, w.0, w.1, w.2)
says_sinks Is part image image' notes notes' (Err PartImageFault) is w = (part, is, w.0, w.1)
says_sinks Is part image image' notes notes' (Err PartNotesFault) is w = (part, is, w.0, w.1)

module _ (format : Format) (track : TrackId) (number : ℕ) (left left' : Option (List ℕ)) (used : Bool) (held held' : List ℕ) (old new : Knowledge) where
  pub decodes_fault : (image notes : Option (List ℕ)) (fault : CaptureFault) → ReadsCapture format track 0 left left' used held held' old new (Err fault)
      → DecodesTrack format track number left left' used held held' image image notes notes (Err (of_capture number fault))
  decodes_fault image notes UnreadCapture c = record {
    taken = c.read.taken;
    consumed = c.read.consumed;
    few = c.read.few;
    times = c.times;
    indexes = c.indexes;
    stream = λ later only. c.read.stream later only;
    ended = c.read.ended;
    wrote = (refl, refl);
  }
  decodes_fault image notes (RefusedStream block fault) c = record {
    taken = c.read.taken;
    consumed = c.read.consumed;
    few = c.read.few;
    times = c.times;
    indexes = c.indexes;
    stream = λ later only. (refl, c.read.stream later only);
    ended = c.read.ended;
    wrote = (refl, refl);
  }

  pub decodes_part : (image image' notes notes' : Option (List ℕ)) (u : Unit {0}) (answer : Result Totals PartFault)
      → ReadsCapture format track 0 left left' used held held' old new (Ok u) → StandsFor old []
      → ((readings : List NotedReading) → StandsFor new readings → WritesPart (part_of format track readings) image image' notes notes' answer)
      → DecodesTrack format track number left left' used held held' image image' notes notes' (of_part answer)
  decodes_part image image' notes notes' u answer c empty wrote =
      let readings = c.noted.0 in
      let part : TrackPart = part_of format track readings in
      record {
        taken = c.read.taken;
        consumed = c.read.consumed;
        few = c.read.few;
        times = c.times;
        indexes = c.indexes;
        stream = λ (later : List ℕ) only.
            says_stream number answer (input_of used ((held ++ c.read.taken) ++ later)) c.times c.indexes (held' ++ later) (c.read.stream later (λ cannot. absurd cannot));
        ended = λ cut. absurd (not_truncated answer cut);
        wrote = says_sinks (IsPart format track c.times c.indexes) part image image' notes notes' answer
            (one_capture format track c.times c.indexes readings c.noted.1) (wrote readings (c.noted.2 [] empty));
      }

module _ (old start : RoomState) (number : ℕ) (is : start ≡ record old { started = number; captures = 0; book = start.book; passed = []; others = start.others }) (left left' : Option (List ℕ)) where
  -- nothing but the book is another one where a track was started
  pub from_start : (held' : List ℕ) (book : Knowledge) (answer : CaptureAnswer)
      → ReadsCapture start.format (track_at start.format number) 0 left left' start.used start.held held' start.book book answer
      → ReadsCapture old.format (track_at old.format number) 0 left left' old.used old.held held' start.book book answer
  from_start held' book answer c =
      subst (λ (f : Format). ReadsCapture f (track_at f number) 0 left left' old.used old.held held' start.book book answer) (ap (λ (r : RoomState). r.format) is)
      (subst (λ (u : Bool). ReadsCapture start.format (track_at start.format number) 0 left left' u old.held held' start.book book answer) (ap (λ (r : RoomState). r.used) is)
      (subst (λ (h : List ℕ). ReadsCapture start.format (track_at start.format number) 0 left left' start.used h held' start.book book answer) (ap (λ (r : RoomState). r.held) is) c))

  pub decodes_started : (read : RoomState) → read.format ≡ start.format → (image image' notes notes' : Option (List ℕ)) (u : Unit {0}) (answer : Result Totals PartFault)
      → ReadsCapture start.format (track_at start.format number) 0 left left' start.used start.held read.held start.book read.book (Ok u) → StandsFor start.book []
      → ((readings : List NotedReading) → StandsFor read.book readings → WritesPart (part_of read.format (track_at read.format number) readings) image image' notes notes' answer)
      → DecodesTrack old.format (track_at old.format number) number left left' old.used old.held read.held image image' notes notes' (of_part answer)
  decodes_started read same image image' notes notes' u answer c empty wrote =
      decodes_part old.format (track_at old.format number) number left left' old.used old.held read.held start.book read.book image image' notes notes' u answer
      (from_start read.held read.book (Ok u) c) empty
      (subst (λ (f : Format). (readings : List NotedReading) → StandsFor read.book readings → WritesPart (part_of f (track_at f number) readings) image image' notes notes' answer)
      (same ∙ ap (λ (r : RoomState). r.format) is) wrote)

  -- what the book knows that the room has when the track is read
  pub still_knows : (read : RoomState) → read.format ≡ start.format → (format : Format) → format ≡ read.format → (track : TrackId) → track ≡ track_at format number
      → (book : Knowledge) → book ≡ read.book → Knows (sectors_of old.format (track_at old.format number)) start.book → SameShape start.book read.book
      → Knows (sectors_of format track) book
  still_knows read same format format_is track at book book_is knows shape =
      let all : format ≡ old.format = format_is ∙ same ∙ ap (λ (r : RoomState). r.format) is in
      let sectors : sectors_of format track ≡ sectors_of old.format (track_at old.format number) =
      ap (sectors_of format) at ∙ ap (λ (f : Format). sectors_of f (track_at f number)) all in
      record {
        first = ap (λ (b : Knowledge). b.first_sector) book_is ∙ shape.first_is ∙ knows.first ∙ ap (λ (z : Sectors). z.first) (sym sectors);
        count = ap (λ (b : Knowledge). length b.found) book_is ∙ shape.sectors_are ∙ knows.count ∙ ap (λ (z : Sectors). z.count) (sym sectors);
      }

  -- where the track was written by the room's format and book, and ended
  pub decodes_ended : (read ended : RoomState) → ended.held ≡ read.held → read.format ≡ start.format
      → (format : Format) → format ≡ read.format → (track : TrackId) → track ≡ track_at format number → (book : Knowledge) → book ≡ read.book
      → (image image' notes notes' : Option (List ℕ)) (u : Unit {0}) (answer : Result Totals PartFault)
      → ReadsCapture start.format (track_at start.format number) 0 left left' start.used start.held read.held start.book read.book (Ok u) → StandsFor start.book []
      → ((readings : List NotedReading) → StandsFor book readings → WritesPart (part_of format track readings) image image' notes notes' answer)
      → DecodesTrack old.format (track_at old.format number) number left left' old.used old.held ended.held image image' notes notes' (of_part answer)
  decodes_ended read ended held_is same format format_is track at book book_is image image' notes notes' u answer c empty wrote =
      subst (λ (h : List ℕ). DecodesTrack old.format (track_at old.format number) number left left' old.used old.held h image image' notes notes' (of_part answer)) (sym held_is)
      (decodes_started read same image image' notes notes' u answer c empty
      (subst (λ (f : Format). (readings : List NotedReading) → StandsFor read.book readings → WritesPart (part_of f (track_at f number) readings) image image' notes notes' answer) format_is
      (subst (λ (t : TrackId). (readings : List NotedReading) → StandsFor read.book readings → WritesPart (part_of format t readings) image image' notes notes' answer) at
      (subst (λ (b : Knowledge). (readings : List NotedReading) → StandsFor b readings → WritesPart (part_of format track readings) image image' notes notes' answer) book_is wrote))))
