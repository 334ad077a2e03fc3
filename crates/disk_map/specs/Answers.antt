-- What drawing a disk may answer, and what that says of the input and
-- of the bytes that were written.
use Rattle.std.specs.Prelude.{◌≡◌, ◌<◌, ◌≤◌, ◌⊎◌, ℕ, ◌+◌, ◌*◌, List, [], ◌++◌, length, Option, Some}
use Rattle.std.specs.Prelude.{None, Ok, Err}
use Rattle.std.specs.Io.KnownBytes.{Appends, Consumes, IsAtEnd}
use Rattle.flux_base.specs.Outside.{AppendsPart}
use Rattle.kryo_stream.specs.declared.fault.StreamFault.TheVariants.{Truncated}
use Rattle.sector_images.specs.Places.{tracks}
use Rattle.sector_images.specs.declared.format.Format.{Format}
use Rattle.flux_engine.specs.Answers.{IsTakenBehind}
use Rattle.flux_engine.specs.Disks.{totals_over}
use Rattle.flux_engine.specs.PlanAnswers.{MOST_OF_STREAM, PlanAnswer, SaysTruncated, most_of_track}
use Rattle.flux_engine.specs.Plans.{ArePlannedParts, Planned, StopsAt, planned_count}
use Rattle.flux_engine.specs.Plans.{streams_in}
use Rattle.flux_engine.specs.Tracks.{TrackPart}
use Rattle.flux_engine.specs.declared.fault.RefusedCapture.{RefusedCapture}
use Rattle.flux_engine.specs.declared.fault.Stopped.TheVariants.{ReadFault, ImageFault}
use Rattle.flux_engine.specs.declared.fault.Stopped.TheVariants.{NotesFault, Refused}
use Rattle.flux_engine.specs.declared.plan.Plan.{Plan}
use Rattle.disk_map.specs.Maps.{IsDrawn, drawn_by, foot_of, front_of, picture_of}
use Rattle.disk_map.specs.Texts.{top_text}

-- the answer for a disk is right for the bytes at hand alone, whatever might have followed them:
-- the input ends there, or the source failed; where the sink failed and the source is at its end,
-- the input may be refused there
abbrev pub IsOfDiskAtHand : (left' : Option (List ℕ)) → PlanAnswer → Type 0
IsOfDiskAtHand left' (Err (Refused stop)) = stop.fault ≡ Truncated
IsOfDiskAtHand left' (Err ReadFault) = Unit {0}
IsOfDiskAtHand left' (Err ImageFault) = IsAtEnd left'
IsOfDiskAtHand left' _ = ⊥

-- all was written that the input x comes to
pub record Drew (plan : Plan) (format : Format) (x : List ℕ) (picture picture' : Option (List ℕ))
    (d : Planned) : Type 0 where
  pub drawn : IsDrawn plan format x d
  pub grew : Appends picture picture' (picture_of format d)

-- The source failed inside a stream: the picture was written up to its foot,
-- with the tracks that were read.
pub record DrewFront (plan : Plan) (format : Format) (x : List ℕ)
    (picture picture' : Option (List ℕ)) : Type 0 where
  pub drawn : Planned
  pub is : IsDrawn plan format x drawn
  pub grew : Appends picture picture' (top_text format ++ drawn.image)
  pub stop : RefusedCapture
  pub stops : drawn.stop ≡ Some stop
  pub cut_short : stop.fault ≡ Truncated

-- what stands in a picture after some of its tracks: nothing yet, or the foot
-- where these are all that there are
abbrev pub IsEnding : Plan → Format → (x : List ℕ) → List TrackPart → List ℕ → Type 0
IsEnding plan format x parts ending =
    (ending ≡ [])
    ⊎ ((stop : Option RefusedCapture) × StopsAt plan format (streams_in plan x) stop
    × (length parts ≡ planned_count format stop)
    × (ending ≡ foot_of format (totals_over parts) stop))

-- The sink failed: a part of a picture of the first tracks was written, which is shorter than
-- it. Of the source all streams before the last of these tracks were taken, and no more than
-- that one and what an intake holds.
pub record StoppedInPicture (plan : Plan) (format : Format) (x later : List ℕ)
    (picture picture' : Option (List ℕ)) : Type 0 where
  pub drawn : List TrackPart
  pub each : ArePlannedParts plan (drawn_by plan.naming) format (streams_in plan x) drawn
  pub many : length drawn ≤ length (tracks format)
  pub ending : List ℕ
  pub ends : IsEnding plan format x drawn ending
  pub grew : AppendsPart picture picture' (front_of format drawn ++ ending)
  pub before : ℕ
  pub close : (length drawn * plan.captures ≤ before + plan.captures)
      × (before < length drawn * plan.captures + plan.captures)
  pub taken : IsTakenBehind x later before (most_of_track plan)

-- What the answer says of the input x, which has bytes `later` that were not taken.
abbrev pub SaysOfMap : Plan → Format → (x later : List ℕ) → (picture picture' : Option (List ℕ))
    → PlanAnswer → Type 0
SaysOfMap plan format x later picture picture' (Ok totals) =
    (d : Planned) × Drew plan format x picture picture' d × (d.stop ≡ None) × (totals ≡ d.totals)
    × IsTakenBehind x later (length (tracks format) * plan.captures) 4096
SaysOfMap plan format x later picture picture' (Err (Refused stop)) =
    (d : Planned) × Drew plan format x picture picture' d × (d.stop ≡ Some stop)
    × IsTakenBehind x later (stop.track * plan.captures + stop.capture) MOST_OF_STREAM
SaysOfMap plan format x later picture picture' (Err ReadFault) =
    DrewFront plan format x picture picture'
SaysOfMap plan format x later picture picture' (Err ImageFault) =
    StoppedInPicture plan format x later picture picture'
SaysOfMap plan format x later picture picture' (Err NotesFault) = ⊥

-- A call that draws a disk from a fresh room: it took these bytes, and what it says is right
-- whatever follows them, unless it is of them alone.
pub record MapsDisk (plan : Plan) (format : Format) (left left' picture picture' : Option (List ℕ))
    (answer : PlanAnswer) : Type 0 where
  pub taken : List ℕ
  pub consumed : Consumes left left' taken
  pub says : (later : List ℕ) → (IsOfDiskAtHand left' answer → later ≡ [])
      → SaysOfMap plan format (taken ++ later) later picture picture' answer
  pub ended : SaysTruncated answer → IsAtEnd left'

-- A source that tells its bytes x has the rest of them left, and what the answer says is right for
-- all of x; where the source failed, for those that it gave.
abbrev pub SaysOfMapInput : Plan → Format → (x : List ℕ)
    → (left' picture picture' : Option (List ℕ)) → PlanAnswer → Type 0
SaysOfMapInput plan format x left' picture picture' (Err ReadFault) =
    (taken rest : List ℕ) × (x ≡ taken ++ rest) × (left' ≡ Some rest)
    × SaysOfMap plan format taken [] picture picture' (Err ReadFault)
SaysOfMapInput plan format x left' picture picture' answer =
    (rest : List ℕ) × (left' ≡ Some rest) × SaysOfMap plan format x rest picture picture' answer
