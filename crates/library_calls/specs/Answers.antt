-- What the calls that decode may answer, and what that says of the input and
-- of the bytes that were written.
use Rattle.std.specs.Prelude.{◌≡◌, ◌≤◌, ℕ, Bool, List, [], ◌∷◌, ◌++◌, length, Option}
use Rattle.std.specs.Prelude.{Some, None, Result, Ok, Err, OnOk}
use Rattle.std.specs.Io.KnownBytes.{Appends, Consumes, IsAtEnd}
use Rattle.flux_base.specs.Outside.{Rose, AppendsPart}
use Rattle.flux_base.specs.declared.track.TrackId.{TrackId}
use Rattle.kryo_stream.specs.Outcome.{input_of}
use Rattle.kryo_stream.specs.Stream.{first_fault, times, indexes}
use Rattle.kryo_stream.specs.declared.fault.StreamFault.TheVariants.{Truncated}
use Rattle.sector_images.specs.Places.{tracks}
use Rattle.sector_images.specs.declared.format.Format.{Format}
use Rattle.sector_report.specs.declared.totals.Totals.{Totals}
use Rattle.turn_merge.specs.Book.{Knowledge}
use Rattle.turn_merge.specs.Readings.{NotedReading}
use Rattle.flux_engine.specs.Captured.{AppendsReadings, AreReadingsAt}
use Rattle.library_calls.specs.Disks.{Stop, Decoded, IsDecoded, AreParts, IsPart, stop_of}
use Rattle.flux_engine.specs.Cut.{CutBySink, CutInTotal}
use Rattle.flux_engine.specs.Tracks.{TrackPart}
use Rattle.kryo_stream.specs.declared.fault.CaptureFault.{CaptureFault}
use Rattle.kryo_stream.specs.declared.fault.CaptureFault.TheVariants.{ReadFault as UnreadCapture}
use Rattle.kryo_stream.specs.declared.fault.CaptureFault.TheVariants.{Refused as RefusedStream}
use Rattle.library_calls.specs.declared.fault.EngineFault.{EngineFault}
use Rattle.flux_engine.specs.declared.track_part.PartFault.{PartFault}
use Rattle.flux_engine.specs.declared.track_part.PartFault.TheVariants.{ImageFault as PartImageFault}
use Rattle.flux_engine.specs.declared.track_part.PartFault.TheVariants.{NotesFault as PartNotesFault}
use Rattle.library_calls.specs.declared.fault.EngineFault.TheVariants.{ReadFault, ImageFault}
use Rattle.library_calls.specs.declared.fault.EngineFault.TheVariants.{NotesFault, Refused}
use Rattle.flux_engine.specs.Answers.{IsTrackStream, CaptureAnswer, ReadsStream}
use Rattle.flux_engine.specs.Answers.{IsTakenBehind}
use Rattle.flux_engine.specs.PlanAnswers.{PlanAnswer}
use Rattle.flux_engine.specs.declared.fault.Stopped.TheVariants.{ReadFault as PlanUnread}
use Rattle.flux_engine.specs.declared.fault.Stopped.TheVariants.{ImageFault as PlanUnwritten}
use Rattle.flux_engine.specs.declared.fault.Stopped.TheVariants.{NotesFault as PlanUntold}
use Rattle.flux_engine.specs.declared.fault.Stopped.TheVariants.{Refused as PlanRefused}
use Rattle.flux_base.specs.Blames.{Blame, no_one, the_source, the_image, the_notes}

abbrev pub Answer : Type 0
Answer = Result Totals EngineFault

-- the answer says that the input ends inside a block
abbrev pub IsTruncated : {A : Type 0} → Result A EngineFault → Type 0
IsTruncated (Err (Refused _ _ fault)) = fault ≡ Truncated
IsTruncated _ = ⊥

-- the answer is right for the bytes at hand alone, whatever might have followed them: the input
-- ends there, or the source failed
abbrev pub IsOfBytesAtHand : {A : Type 0} → Result A EngineFault → Type 0
IsOfBytesAtHand (Err (Refused _ _ fault)) = fault ≡ Truncated
IsOfBytesAtHand (Err ReadFault) = Unit {0}
IsOfBytesAtHand _ = ⊥

-- each fault of an object of the outside comes only where its count rose
abbrev pub EngineCause : {A : Type 0} → (source source' image image' notes notes' : ℕ)
    → Result A EngineFault → Type 0
EngineCause source source' image image' notes notes' (Err ReadFault) = Rose source source'
EngineCause source source' image image' notes notes' (Err ImageFault) = Rose image image'
EngineCause source source' image image' notes notes' (Err NotesFault) = Rose notes notes'
EngineCause source source' image image' notes notes' _ = Unit {0}

-- what the answer for track `number` says of the input x
abbrev pub SaysOfStream : {A : Type 0} → ℕ → Result A EngineFault
    → (x times' indexes' stays : List ℕ) → Type 0
SaysOfStream number (Err (Refused track block fault)) x times' indexes' stays =
    (track ≡ number) × (first_fault x ≡ Some (block, fault))
SaysOfStream number (Err ReadFault) x times' indexes' stays =
    (block : ℕ) × (first_fault x ≡ Some (block, Truncated))
SaysOfStream number _ x times' indexes' stays = IsTrackStream x times' indexes' stays

-- the source fails only where its count rose
abbrev pub CaptureCause : {A : Type 0} → (source source' : ℕ) → Result A CaptureFault → Type 0
CaptureCause source source' (Err UnreadCapture) = Rose source source'
CaptureCause source source' _ = Unit {0}

-- the fault of a track's one stream, among those of decoding
abbrev pub of_capture : (number : ℕ) → CaptureFault → EngineFault
of_capture number UnreadCapture = ReadFault
of_capture number (RefusedStream block fault) = Refused number block fault

-- the fault of a sink as a track was written
abbrev pub of_sink : PartFault → EngineFault
of_sink PartImageFault = ImageFault
of_sink PartNotesFault = NotesFault

-- A call that reads one of the streams that capture a track: where the stream has no fault, all its
-- readings were noted after those before, with the capture's number.
pub record ReadsCapture (format : Format) (track : TrackId) (capture : ℕ)
    (left left' : Option (List ℕ)) (used : Bool) (held held' : List ℕ)
    (old new : Knowledge) (answer : CaptureAnswer) : Type 0 where
  pub times : List ℕ
  pub indexes : List ℕ
  pub read : ReadsStream left left' used held held' times indexes answer
  pub noted : OnOk answer
      ((readings : List NotedReading) × AreReadingsAt format track times indexes capture readings
      × AppendsReadings old new readings)

-- what the answer says of the bytes that were written: the track's part of the
-- image, and after it its lines
abbrev pub SaysOfSinks : (TrackPart → Type 0) → (image image' notes notes' : Option (List ℕ))
    → Answer → Type 0
SaysOfSinks Is image image' notes notes' (Ok totals) =
    (part : TrackPart) × Is part × Appends image image' part.image × Appends notes notes' part.lines
    × (totals ≡ part.totals)
SaysOfSinks Is image image' notes notes' (Err ImageFault) =
    (part : TrackPart) × Is part × AppendsPart image image' part.image × (notes' ≡ notes)
SaysOfSinks Is image image' notes notes' (Err NotesFault) =
    (part : TrackPart) × Is part × Appends image image' part.image
    × AppendsPart notes notes' part.lines
SaysOfSinks Is image image' notes notes' (Err _) = (image' ≡ image) × (notes' ≡ notes)

-- A call that decodes track `number`: it took these bytes, which with the held ones are no more
-- than padding, a stream and an intake can be; what it says of the stream is right whatever follows
-- the bytes at hand, unless it is of them alone; and it wrote what the track comes to.
pub record DecodesTrack (format : Format) (track : TrackId) (number : ℕ)
    (left left' : Option (List ℕ)) (used : Bool) (held held' : List ℕ)
    (image image' notes notes' : Option (List ℕ)) (answer : Answer) : Type 0 where
  pub taken : List ℕ
  pub consumed : Consumes left left' taken
  pub few : length (held ++ taken) ≤ 4198416
  pub times : List ℕ
  pub indexes : List ℕ
  pub stream : (later : List ℕ) → (IsOfBytesAtHand answer → later ≡ [])
      → SaysOfStream number answer (input_of used ((held ++ taken) ++ later)) times indexes
      (held' ++ later)
  pub ended : IsTruncated answer → IsAtEnd left'
  pub wrote : SaysOfSinks (IsPart format track times indexes) image image' notes notes' answer

-- all was written that the input x comes to
pub record WroteAll (format : Format) (x : List ℕ) (image image' notes notes' : Option (List ℕ))
    (o : Decoded) : Type 0 where
  pub decoded : IsDecoded format x o
  pub image_grew : Appends image image' o.image
  pub notes_grew : Appends notes notes' o.notes

-- a sink failed in a track, of which the stream was taken, or behind all tracks
abbrev pub CutOfDisk : PartFault → Format → (x later : List ℕ)
    → (image image' notes notes' : Option (List ℕ)) → Type 0
CutOfDisk cause format x later =
    CutBySink cause
    (λ parts next.
    AreParts format x (parts ++ next ∷ [])
    × IsTakenBehind x later (length parts) 4198416)
    (CutInTotal (λ parts. AreParts format x parts × IsTakenBehind x later (length parts) 4096)
    (length (tracks format)))
    (length (tracks format))

-- What the answer says of the input x, which has bytes `later` that were not taken.
abbrev pub SaysOfDisk : Format → (x later : List ℕ) → (image image' notes notes' : Option (List ℕ))
    → Answer → Type 0
SaysOfDisk format x later image image' notes notes' (Ok totals) =
    (o : Decoded) × WroteAll format x image image' notes notes' o × (o.stop ≡ None)
    × (totals ≡ o.totals)
    × IsTakenBehind x later (length (tracks format)) 4096
SaysOfDisk format x later image image' notes notes' (Err (Refused track block fault)) =
    (o : Decoded) × WroteAll format x image image' notes notes' o
    × (o.stop ≡ Some (record { track = track; block = block; fault = fault }))
    × IsTakenBehind x later track 4198416
SaysOfDisk format x later image image' notes notes' (Err ReadFault) =
    (o : Decoded) × (stop : Stop) × WroteAll format x image image' notes notes' o
    × (o.stop ≡ Some stop) × (stop.fault ≡ Truncated)
SaysOfDisk format x later image image' notes notes' (Err ImageFault) =
    CutOfDisk PartImageFault format x later image image' notes notes'
SaysOfDisk format x later image image' notes notes' (Err NotesFault) =
    CutOfDisk PartNotesFault format x later image image' notes notes'

-- A call that decodes a disk from a fresh room: it took these bytes, and what it says is right
-- whatever follows them, unless it is of them alone.
pub record DecodesDisk (format : Format) (left left' image image' notes notes' : Option (List ℕ))
    (answer : Answer) : Type 0 where
  pub taken : List ℕ
  pub consumed : Consumes left left' taken
  pub says : (later : List ℕ) → (IsOfBytesAtHand answer → later ≡ [])
      → SaysOfDisk format (taken ++ later) later image image' notes notes' answer
  pub ended : IsTruncated answer → IsAtEnd left'

-- A source that tells its bytes x has the rest of them left, and what the answer says is right for
-- all of x; where the source failed, for those that it gave.
abbrev pub SaysOfInput : Format → (x : List ℕ) → (left' image image' notes notes' : Option (List ℕ))
    → Answer → Type 0
SaysOfInput format x left' image image' notes notes' (Ok totals) =
    (rest : List ℕ) × (left' ≡ Some rest)
    × SaysOfDisk format x rest image image' notes notes' (Ok totals)
SaysOfInput format x left' image image' notes notes' (Err (Refused track block fault)) =
    (rest : List ℕ) × (left' ≡ Some rest)
    × SaysOfDisk format x rest image image' notes notes' (Err (Refused track block fault))
SaysOfInput format x left' image image' notes notes' (Err ReadFault) =
    (taken rest : List ℕ) × (x ≡ taken ++ rest) × (left' ≡ Some rest)
    × SaysOfDisk format taken [] image image' notes notes' (Err ReadFault)
SaysOfInput format x left' image image' notes notes' (Err ImageFault) =
    (rest : List ℕ) × (left' ≡ Some rest)
    × SaysOfDisk format x rest image image' notes notes' (Err ImageFault)
SaysOfInput format x left' image image' notes notes' (Err NotesFault) =
    (rest : List ℕ) × (left' ≡ Some rest)
    × SaysOfDisk format x rest image image' notes notes' (Err NotesFault)

-- the whole input was decoded, or a stream of it has a fault
abbrev pub IsWholeOrRefused : Answer → Type 0
IsWholeOrRefused (Ok _) = Unit {0}
IsWholeOrRefused (Err (Refused _ _ _)) = Unit {0}
IsWholeOrRefused (Err _) = ⊥

-- the answer for a disk that is decoded, whose faults name no capture
abbrev pub engine_answer : PlanAnswer → Answer
engine_answer (Ok totals) = Ok totals
engine_answer (Err PlanUnread) = Err ReadFault
engine_answer (Err PlanUnwritten) = Err ImageFault
engine_answer (Err PlanUntold) = Err NotesFault
engine_answer (Err (PlanRefused stop)) = Err (Refused stop.track stop.block stop.fault)

abbrev pub engine_blame : {A : Type 0} → Result A EngineFault → Blame
engine_blame (Err ReadFault) = the_source
engine_blame (Err ImageFault) = the_image
engine_blame (Err NotesFault) = the_notes
engine_blame _ = no_one

-- the streams of a disk go on after these bytes: they end inside a block,
-- and no stream before has a fault
abbrev pub EndsInStreams : Format → List ℕ → Type 0
EndsInStreams format x = (stop : Stop) × (stop_of format x ≡ Some stop) × (stop.fault ≡ Truncated)
