-- What reading a disk by a plan may answer, and what that says of the input and
-- of the bytes that were written.
use Rattle.std.specs.Prelude.{◌≡◌, ℕ, ◌+◌, ◌*◌, Bool, List, [], ◌∷◌, ◌++◌, length, Option}
use Rattle.std.specs.Prelude.{Some, None, Result, Ok, Err, OnOk}
use Rattle.std.specs.Io.KnownBytes.{Appends, Consumes, IsAtEnd}
use Rattle.flux_base.specs.declared.track.TrackId.{TrackId}
use Rattle.turn_merge.specs.Book.{Knowledge}
use Rattle.turn_merge.specs.Others.{NotedOther, OthersKnown}
use Rattle.turn_merge.specs.Readings.{NotedReading}
use Rattle.flux_engine.specs.Answers.{CaptureAnswer, IsTakenBehind, ReadsStream}
use Rattle.flux_engine.specs.Captured.{AppendsOthers, AppendsReadings, AreOthersOf, AreReadingsOf}
use Rattle.flux_engine.specs.Cut.{CutBySink, CutInTotal}
use Rattle.flux_engine.specs.declared.track_part.PartFault.{PartFault}
use Rattle.flux_engine.specs.declared.track_part.PartFault.TheVariants.{ImageFault as PartImageFault}
use Rattle.flux_engine.specs.declared.track_part.PartFault.TheVariants.{NotesFault as PartNotesFault}
use Rattle.flux_engine.specs.declared.plan.Clocks.{Clocks}
use Rattle.flux_engine.specs.declared.plan.Rule.{Rule}
use Rattle.flux_engine.specs.declared.plan.Plan.{Plan}
use Rattle.kryo_stream.specs.declared.fault.StreamFault.TheVariants.{Truncated}
use Rattle.sector_images.specs.Places.{tracks}
use Rattle.sector_images.specs.declared.format.Format.{Format}
use Rattle.sector_report.specs.declared.totals.Totals.{Totals}
use Rattle.flux_engine.specs.Plans.{ArePlannedParts, IsPlanned, PartOf, Planned}
use Rattle.flux_engine.specs.Plans.{streams_in}
use Rattle.kryo_stream.specs.declared.fault.CaptureFault.{CaptureFault}
use Rattle.kryo_stream.specs.declared.fault.CaptureFault.TheVariants.{ReadFault as UnreadCapture}
use Rattle.kryo_stream.specs.declared.fault.CaptureFault.TheVariants.{Refused as RefusedStream}
use Rattle.flux_engine.specs.declared.fault.RefusedCapture.{RefusedCapture}
use Rattle.flux_engine.specs.declared.fault.Stopped.{Stopped}
use Rattle.flux_engine.specs.declared.fault.Stopped.TheVariants.{ReadFault, ImageFault}
use Rattle.flux_engine.specs.declared.fault.Stopped.TheVariants.{NotesFault, Refused}

abbrev pub PlanAnswer : Type 0
PlanAnswer = Result Totals (Stopped RefusedCapture)

-- the answer says that the input ends inside a block
abbrev pub SaysTruncated : {A : Type 0} → Result A (Stopped RefusedCapture) → Type 0
SaysTruncated (Err (Refused stop)) = stop.fault ≡ Truncated
SaysTruncated _ = ⊥

-- the answer is right for the bytes at hand alone, whatever might have followed them: the input
-- ends there, or the source failed
abbrev pub IsOfBytesTaken : {A : Type 0} → Result A (Stopped RefusedCapture) → Type 0
IsOfBytesTaken (Err (Refused stop)) = stop.fault ≡ Truncated
IsOfBytesTaken (Err ReadFault) = Unit {0}
IsOfBytesTaken _ = ⊥

-- the fault of a capture of a track, and that of a sink, among those of a disk
abbrev pub of_stream : (track capture : ℕ) → CaptureFault → Stopped RefusedCapture
of_stream track capture UnreadCapture = ReadFault
of_stream track capture (RefusedStream block fault) =
    Refused (record { track = track; capture = capture; block = block; fault = fault })

abbrev pub of_part : {R : Type 0} → PartFault → Stopped R
of_part PartImageFault = ImageFault
of_part PartNotesFault = NotesFault

-- A call that reads one of the streams that capture a track by a rule and these clocks:
-- where the stream has no fault, all its readings were noted after those before, and all its
-- other headers after those before.
pub record ReadsByClocks (rule : Rule) (clocks : Clocks) (format : Format) (track : TrackId)
    (capture : ℕ) (left left' : Option (List ℕ)) (used : Bool) (held held' : List ℕ)
    (old new : Knowledge) (before after : OthersKnown) (answer : CaptureAnswer) : Type 0 where
  pub times : List ℕ
  pub indexes : List ℕ
  pub read : ReadsStream left left' used held held' times indexes answer
  pub noted : OnOk answer
      ((readings : List NotedReading)
      × AreReadingsOf rule clocks format track times indexes capture readings
      × AppendsReadings old new readings)
  pub others : OnOk answer
      ((others : List NotedOther)
      × AreOthersOf rule clocks format track times indexes capture others
      × AppendsOthers before after others)

-- the most bytes of padding, of a stream and of what an intake holds after it
abbrev pub MOST_OF_STREAM : ℕ
MOST_OF_STREAM = 4198416

-- the most bytes of all captures of a track, each with padding, and of
-- what an intake holds after them
abbrev pub most_of_track : Plan → ℕ
most_of_track plan = plan.captures * 4194320 + 4096

-- all was written that the input x comes to by the plan
pub record WrotePlanned (plan : Plan) (of : PartOf) (format : Format) (x : List ℕ)
    (image image' notes notes' : Option (List ℕ)) (o : Planned) : Type 0 where
  pub decoded : IsPlanned plan of format (streams_in plan x) o
  pub image_grew : Appends image image' o.image
  pub notes_grew : Appends notes notes' o.notes

-- a sink failed in a track, of which all captures were taken, or behind all tracks
abbrev pub CutOfPlan : PartFault → Plan → PartOf → Format → (x later : List ℕ)
    → (image image' notes notes' : Option (List ℕ)) → Type 0
CutOfPlan cause plan of format x later =
    CutBySink cause
    (λ parts next.
    ArePlannedParts plan of format (streams_in plan x) (parts ++ next ∷ [])
    × IsTakenBehind x later (length parts * plan.captures) (most_of_track plan))
    (CutInTotal
    (λ parts.
    ArePlannedParts plan of format (streams_in plan x) parts
    × IsTakenBehind x later (length parts * plan.captures) 4096)
    (length (tracks format)))
    (length (tracks format))

-- What the answer says of the input x, which has bytes `later` that were not taken.
abbrev pub SaysOfPlanned : Plan → PartOf → Format → (x later : List ℕ)
    → (image image' notes notes' : Option (List ℕ)) → PlanAnswer → Type 0
SaysOfPlanned plan of format x later image image' notes notes' (Ok totals) =
    (o : Planned) × WrotePlanned plan of format x image image' notes notes' o × (o.stop ≡ None)
    × (totals ≡ o.totals)
    × IsTakenBehind x later (length (tracks format) * plan.captures) 4096
SaysOfPlanned plan of format x later image image' notes notes' (Err (Refused stop)) =
    (o : Planned) × WrotePlanned plan of format x image image' notes notes' o
    × (o.stop ≡ Some stop)
    × IsTakenBehind x later (stop.track * plan.captures + stop.capture) MOST_OF_STREAM
SaysOfPlanned plan of format x later image image' notes notes' (Err ReadFault) =
    (o : Planned) × (stop : RefusedCapture) × WrotePlanned plan of format x image image' notes notes' o
    × (o.stop ≡ Some stop) × (stop.fault ≡ Truncated)
SaysOfPlanned plan of format x later image image' notes notes' (Err ImageFault) =
    CutOfPlan PartImageFault plan of format x later image image' notes notes'
SaysOfPlanned plan of format x later image image' notes notes' (Err NotesFault) =
    CutOfPlan PartNotesFault plan of format x later image image' notes notes'

-- A call that reads a disk from a fresh room: it took these bytes, and what it says is right
-- whatever follows them, unless it is of them alone.
pub record DecodesPlanned (plan : Plan) (of : PartOf) (format : Format)
    (left left' image image' notes notes' : Option (List ℕ)) (answer : PlanAnswer) : Type 0 where
  pub taken : List ℕ
  pub consumed : Consumes left left' taken
  pub says : (later : List ℕ) → (IsOfBytesTaken answer → later ≡ [])
      → SaysOfPlanned plan of format (taken ++ later) later image image' notes notes' answer
  pub ended : SaysTruncated answer → IsAtEnd left'

-- A source that tells its bytes x has the rest of them left, and what the answer says is right for
-- all of x; where the source failed, for those that it gave.
abbrev pub SaysOfPlannedInput : Plan → PartOf → Format → (x : List ℕ)
    → (left' image image' notes notes' : Option (List ℕ)) → PlanAnswer → Type 0
SaysOfPlannedInput plan of format x left' image image' notes notes' (Err ReadFault) =
    (taken rest : List ℕ) × (x ≡ taken ++ rest) × (left' ≡ Some rest)
    × SaysOfPlanned plan of format taken [] image image' notes notes' (Err ReadFault)
SaysOfPlannedInput plan of format x left' image image' notes notes' answer =
    (rest : List ℕ) × (left' ≡ Some rest)
    × SaysOfPlanned plan of format x rest image image' notes notes' answer

-- the whole input was decoded, or a stream of it has a fault
abbrev pub IsFinished : PlanAnswer → Type 0
IsFinished (Ok _) = Unit {0}
IsFinished (Err (Refused _)) = Unit {0}
IsFinished (Err _) = ⊥
