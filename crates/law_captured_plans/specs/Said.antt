-- What a disk that was read by a plan says of one of its sectors, in its report and in its image.
use Rattle.std.specs.Prelude.{◌≡◌, ◌≤◌, ◌<◌, ℕ, ◌+◌, List, length, None}
use Rattle.flux_base.specs.declared.track.TrackId.{TrackId}
use Rattle.kryo_stream.specs.Protocol.{LIMIT}
use Rattle.sector_images.specs.Formats.{row}
use Rattle.sector_images.specs.Places.{IsSector, tracks}
use Rattle.sector_images.specs.declared.format.Format.{Format}
use Rattle.sector_report.specs.LineLaws.{LineFits, line_ends}
use Rattle.sector_report.specs.Lines.{named_text}
use Rattle.sector_report.specs.declared.naming.Naming.{Naming}
use Rattle.sector_report.specs.declared.naming.Naming.TheVariants.{ByCapture, ByCaptureAndClock}
use Rattle.sector_report.specs.declared.naming.Naming.TheVariants.{ByClock, Unnamed}
use Rattle.turn_merge.specs.Readings.{NotedReading, verdict}
use Rattle.turn_merge.specs.declared.verdict.Place.{Place}
use Rattle.turn_merge.specs.declared.verdict.Verdict.{Verdict}
use Rattle.turn_merge.specs.declared.verdict.Verdict.TheVariants.{Good}
use Rattle.flux_engine.specs.DiskLaws.{HasLine, bytes_at, line_number, sectors_before, total_lines}
use Rattle.flux_engine.specs.Disks.{images}
use Rattle.flux_engine.specs.PlanLaws.{IsRightlyGood}
use Rattle.flux_engine.specs.Plans.{AreCaptures, ArePlannedParts, IsPlanned, Planned, Streams}
use Rattle.flux_engine.specs.Plans.{joined, planned_count, streams_in}
use Rattle.flux_engine.specs.Recordings.{sectors_of, track_at}
use Rattle.flux_engine.specs.Tracks.{TrackPart, image_bytes, part_by}
use Rattle.flux_engine.specs.declared.plan.Clocks.{Clocks}
use Rattle.flux_engine.specs.declared.plan.Clocks.TheVariants.{FollowingAlone}
use Rattle.flux_engine.specs.declared.plan.Plan.{Plan}
use Rattle.flux_engine.specs.declared.plan.Rule.TheVariants.{Strict}

-- The report has the sector's line at this number, with the verdict over all that was read of its
-- track. At its place in the image stand the bytes that all good readings hold, where
-- no two differ, and else zeros.
pub record IsSaid (plan : Plan) (format : Format) (streams : Streams) (o : Planned)
    (n sector number : ℕ) : Type 0 where
  pub captures : List (List NotedReading)
  pub many : length captures ≡ plan.captures
  pub each : AreCaptures plan format streams n captures
  pub line : HasLine o.notes
      (named_text plan.naming (track_at format n) sector (verdict (joined captures) sector)) number
  pub held : bytes_at format o.image (track_at format n) sector
      ≡ image_bytes (sectors_of format (track_at format n)) (joined captures) sector

-- it is good over all that was read of its track
pub record IsSaidGood (plan : Plan) (format : Format) (streams : Streams) (o : Planned)
    (n sector number : ℕ) : Type 0 where
  pub said : IsSaid plan format streams o n sector number
  pub good : ℕ
  pub bad : ℕ
  pub first : Place
  pub is : verdict (joined said.captures) sector ≡ Good good bad first

-- each sector of the tracks that were read is said, after those of all sectors before it
abbrev pub SectorsAreSaid : Type 0
SectorsAreSaid = (plan : Plan) (format : Format) (streams : Streams) (o : Planned)
    → IsPlanned plan (part_by plan.naming) format streams o
    → (n sector : ℕ) → n < planned_count format o.stop → IsSector format (track_at format n) sector
    → IsSaid plan format streams o n sector (line_number format n sector)

-- the parts of any first tracks have no more bytes than the format's image
abbrev pub PlannedPartsFitImages : Type 0
PlannedPartsFitImages = (plan : Plan) (format : Format) (streams : Streams) (parts : List TrackPart)
    → ArePlannedParts plan (part_by plan.naming) format streams parts
    → length parts ≤ length (tracks format)
    → length (images parts) ≤ (row format).image_size

-- the report has a line for each sector of the tracks that were read, and
-- the total line; it has no other
abbrev pub PlannedReportsHaveNoOtherLines : Type 0
PlannedReportsHaveNoOtherLines = (plan : Plan) (format : Format) (streams : Streams) (o : Planned)
    → IsPlanned plan (part_by plan.naming) format streams o
    → line_ends o.notes ≡ sectors_before format (planned_count format o.stop) + total_lines o.stop

-- Lines name all that tells a plan's sources apart: the capture, where there are several of a
-- track, and the clock, where both are used.
abbrev pub TellsSources : Naming → (captures : ℕ) → Clocks → Type 0
TellsSources Unnamed captures clocks = (captures ≤ 1) × (clocks ≡ FollowingAlone)
TellsSources ByCapture captures clocks = clocks ≡ FollowingAlone
TellsSources ByClock captures clocks = captures ≤ 1
TellsSources ByCaptureAndClock captures clocks = Unit {0}

-- the streams that are read have no more transitions and index times than a stream may have blocks
abbrev pub AreShort : Streams → Type 0
AreShort streams = (n q : ℕ) → (streams n q).fault ≡ None
    → (length (streams n q).times ≤ LIMIT) × (length (streams n q).indexes ≤ LIMIT)

-- as those of an input
abbrev pub InputsAreShort : Type 0
InputsAreShort = (plan : Plan) (x : List ℕ) → AreShort (streams_in plan x)

-- The line is that of this sector of a track that was read, and stands at the sector's number. Its
-- verdict, with the sources and the places that it names, is the one over all that was read of the
-- track.
pub record IsToldBy (plan : Plan) (format : Format) (streams : Streams) (o : Planned)
    (number_of : (n sector : ℕ) → ℕ) (track : TrackId) (sector : ℕ) (outcome : Verdict)
    (number : ℕ) : Type 0 where
  pub n : ℕ
  pub track_is : track ≡ track_at format n
  pub low : n < planned_count format o.stop
  pub known : IsSector format (track_at format n) sector
  pub said : IsSaid plan format streams o n sector (number_of n sector)
  pub is : verdict (joined said.captures) sector ≡ outcome
  pub number_is : number ≡ number_of n sector

-- so it is with each line of a report that has the text of a sector's line, of
-- whatever numbers that fit in it
abbrev pub AreToldBy : Plan → Format → Streams → Planned → (number_of : (n sector : ℕ) → ℕ) → Type 0
AreToldBy plan format streams o number_of =
    (track : TrackId) (sector : ℕ) (outcome : Verdict) (number : ℕ)
    → LineFits plan.naming track sector outcome
    → HasLine o.notes (named_text plan.naming track sector outcome) number
    → IsToldBy plan format streams o number_of track sector outcome number

abbrev pub LinesTellInPlans : Type 0
LinesTellInPlans = (plan : Plan) (format : Format) (streams : Streams) (o : Planned)
    → plan.captures ≤ 16 → plan.rule ≡ Strict → TellsSources plan.naming plan.captures plan.clocks
    → AreShort streams → IsPlanned plan (part_by plan.naming) format streams o
    → AreToldBy plan format streams o (line_number format)

-- By the strict rule each line that says good is right: its track is one of the format's, and the
-- sector is rightly good, with the bytes at its place in the image.
abbrev pub AreRightLines : Plan → Format → Streams → Planned → Type 0
AreRightLines plan format streams o =
    (track : TrackId) (sector good bad : ℕ) (first : Place) (number : ℕ)
    → LineFits plan.naming track sector (Good good bad first)
    → HasLine o.notes (named_text plan.naming track sector (Good good bad first)) number
    → (n : ℕ) × (track ≡ track_at format n)
    × IsRightlyGood plan format streams n (bytes_at format o.image (track_at format n) sector)
    sector first

abbrev pub GoodLinesAreRight : Type 0
GoodLinesAreRight = (plan : Plan) (format : Format) (streams : Streams) (o : Planned)
    → plan.captures ≤ 16 → plan.rule ≡ Strict → TellsSources plan.naming plan.captures plan.clocks
    → AreShort streams → IsPlanned plan (part_by plan.naming) format streams o
    → AreRightLines plan format streams o
