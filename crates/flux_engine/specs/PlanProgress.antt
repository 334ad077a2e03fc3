-- How far the reading of a disk by a plan has come, where its streams
-- follow one another in a source.
use Rattle.std.specs.Prelude.{◌≡◌, ◌≤◌, ◌<◌, ℕ, ◌+◌, ◌*◌, Bool, false, List, [], ◌++◌, length}
use Rattle.std.specs.Prelude.{nat_lt, Option, None, Some, Result, Err}
use Rattle.std.specs.Io.KnownBytes.{Appends, Consumes, IsAtEnd}
use Rattle.kryo_stream.specs.Stream.{first_fault}
use Rattle.kryo_stream.specs.declared.fault.StreamFault.{StreamFault}
use Rattle.kryo_stream.specs.declared.fault.StreamFault.TheVariants.{Truncated}
use Rattle.sector_images.specs.Places.{tracks}
use Rattle.sector_images.specs.declared.format.Format.{Format}
use Rattle.sector_report.specs.declared.totals.Totals.{Totals}
use Rattle.flux_engine.specs.Answers.{IsTakenBehind}
use Rattle.flux_engine.specs.Disks.{images, lines, totals_over}
use Rattle.flux_engine.specs.Room.{RoomState}
use Rattle.flux_engine.specs.Streams.{behind, stream_at}
use Rattle.flux_engine.specs.Tracks.{TrackPart}
use Rattle.flux_engine.specs.PlanAnswers.{DecodesPlanned, IsOfBytesTaken, SaysTruncated}
use Rattle.flux_engine.specs.PlanAnswers.{MOST_OF_STREAM}
use Rattle.flux_engine.specs.Plans.{ArePlannedParts, PartOf, streams_in}
use Rattle.flux_engine.specs.declared.plan.Plan.{Plan}
use Rattle.flux_engine.specs.declared.fault.RefusedCapture.{RefusedCapture}
use Rattle.flux_engine.specs.declared.fault.Stopped.{Stopped}
use Rattle.flux_engine.specs.declared.fault.Stopped.TheVariants.{ImageFault, NotesFault}
use Rattle.flux_engine.specs.declared.fault.Stopped.TheVariants.{ReadFault, Refused}

-- The first m streams of an input were read, and none has a fault: these bytes were taken, and
-- those behind the streams are in hand.
pub record HasCome (left left' : Option (List ℕ)) (taken in_hand : List ℕ) (was_used : Bool)
    (m : ℕ) : Type 0 where
  pub consumed : Consumes left left' taken
  pub clean : (later : List ℕ) (i : ℕ) → i < m → first_fault (stream_at (taken ++ later) i) ≡ None
  pub rest : (later : List ℕ) → behind (taken ++ later) m ≡ in_hand ++ later
  pub held : length in_hand ≤ 4096
  pub used : was_used ≡ nat_lt 0 m

-- capture number q of track number n is the first stream of x with a fault, and this is the fault
pub record StoppedAt (plan : Plan) (n : ℕ) (x later : List ℕ) (q block : ℕ)
    (fault : StreamFault) : Type 0 where
  pub low : q < plan.captures
  pub clean : (i : ℕ) → i < n * plan.captures + q → first_fault (stream_at x i) ≡ None
  pub is : first_fault (stream_at x (n * plan.captures + q)) ≡ Some (block, fault)
  pub taken : IsTakenBehind x later (n * plan.captures + q) MOST_OF_STREAM

abbrev pub SaysOfStop : Plan → (n : ℕ) → Result (Unit {0}) (Stopped RefusedCapture)
    → (x later : List ℕ) → Type 0
SaysOfStop plan n (Err (Refused stop)) x later =
    (stop.track ≡ n) × StoppedAt plan n x later stop.capture stop.block stop.fault
SaysOfStop plan n (Err ReadFault) x later =
    (q block : ℕ) × StoppedAt plan n x later q block Truncated
SaysOfStop plan n _ x later = ⊥

-- The reading of a track's captures ended with a fault: these bytes were taken, and what the answer
-- says is right whatever follows them, unless it is of them alone.
pub record WasStopped (plan : Plan) (n : ℕ) (left left' : Option (List ℕ)) (taken : List ℕ)
    (answer : Result (Unit {0}) (Stopped RefusedCapture)) : Type 0 where
  pub consumed : Consumes left left' taken
  pub says : (later : List ℕ) → (IsOfBytesTaken answer → later ≡ [])
      → SaysOfStop plan n answer (taken ++ later) later
  pub ended : SaysTruncated answer → IsAtEnd left'

-- The first n tracks are decoded and written whole.
pub record HasPlanned (plan : Plan) (of : PartOf) (format : Format)
    (left left' image image' notes notes' : Option (List ℕ)) (room : RoomState) (n : ℕ)
    (totals : Totals) : Type 0 where
  pub taken : List ℕ
  pub come : HasCome left left' taken room.held room.used (n * plan.captures)
  pub parts : List TrackPart
  pub many : length parts ≡ n
  pub each : (later : List ℕ)
      → ArePlannedParts plan of format (streams_in plan (taken ++ later)) parts
  pub image_grew : Appends image image' (images parts)
  pub notes_grew : Appends notes notes' (lines parts)
  pub totals_are : totals ≡ totals_over parts
  pub format_is : room.format ≡ format
  pub sound : room.failed ≡ false

-- Reading ended with a fault of a stream, after so many tracks that were decoded and written whole,
-- of which these are the totals.
pub record EndedInStream (plan : Plan) (of : PartOf) (format : Format)
    (left left' image image' notes notes' : Option (List ℕ)) (totals : Totals)
    (answer : Result (Unit {0}) (Stopped RefusedCapture)) : Type 0 where
  pub number : ℕ
  pub low : number < length (tracks format)
  pub taken : List ℕ
  pub parts : List TrackPart
  pub many : length parts ≡ number
  pub each : (later : List ℕ)
      → ArePlannedParts plan of format (streams_in plan (taken ++ later)) parts
  pub image_grew : Appends image image' (images parts)
  pub notes_grew : Appends notes notes' (lines parts)
  pub totals_are : totals ≡ totals_over parts
  pub stopped : WasStopped plan number left left' taken answer

-- Reading ended with a fault: that of a stream, or that of a sink in the track after
-- those that were written whole.
abbrev pub EndsInTracks : Plan → PartOf → Format
    → (left left' image image' notes notes' : Option (List ℕ)) → Totals
    → Result (Unit {0}) (Stopped RefusedCapture) → Type 0
EndsInTracks plan of format left left' image image' notes notes' totals (Err ImageFault) =
    DecodesPlanned plan of format left left' image image' notes notes' (Err ImageFault)
EndsInTracks plan of format left left' image image' notes notes' totals (Err NotesFault) =
    DecodesPlanned plan of format left left' image image' notes notes' (Err NotesFault)
EndsInTracks plan of format left left' image image' notes notes' totals answer =
    EndedInStream plan of format left left' image image' notes notes' totals answer
