-- What captured disks come to that are read by a plan.
use Rattle.std.specs.Prelude.{◌≡◌, ◌<◌, ◌≤◌, ◌⊎◌, ℕ, List, [], drop, length, replicate, None}
use Rattle.disk_recordings.specs.Members.{sector_at}
use Rattle.law_decoded_rings.specs.Verdicts.{StandsInOnePiece}
use Rattle.sector_images.specs.Formats.{row}
use Rattle.sector_images.specs.Places.{tracks}
use Rattle.sector_images.specs.declared.format.Format.{Format}
use Rattle.turn_merge.specs.Others.{NotedOther}
use Rattle.turn_merge.specs.Readings.{verdict}
use Rattle.turn_merge.specs.declared.clock.Clock.TheVariants.{Following, Held}
use Rattle.turn_merge.specs.declared.verdict.Verdict.{Verdict}
use Rattle.turn_merge.specs.declared.verdict.Verdict.TheVariants.{Good, Contradictory, Bad, Missing}
use Rattle.flux_engine.specs.Captured.{IsUsed}
use Rattle.flux_engine.specs.DiskLaws.{bytes_at, line_number}
use Rattle.flux_engine.specs.PlanLaws.{cells_in}
use Rattle.flux_engine.specs.Plans.{AreOthersTo, IsPlanned, Planned, Streams, joined, streams_in}
use Rattle.flux_engine.specs.Recordings.{track_at}
use Rattle.flux_engine.specs.Rings.{IsImage, sector_bytes}
use Rattle.flux_engine.specs.Tracks.{part_by}
use Rattle.flux_engine.specs.declared.plan.Plan.{Plan}
use Rattle.law_captured_disks.specs.Headline.{IsBadOrMissing, IsSectorOf}
use Rattle.law_captured_plans.specs.Inputs.{IsCapturedSet, IsErasedSet, IsSteadyErasedSet}
use Rattle.law_captured_plans.specs.Inputs.{IsSteadySet, LiesInACapture, pieces_of_capture}
use Rattle.law_captured_plans.specs.Said.{IsSaid, IsSaidGood}

-- All tracks are read, the image is this one, all sectors are counted as good, and each is said to
-- be.
pub record IsReadWhole (plan : Plan) (format : Format) (image : List ℕ) (streams : Streams)
    (o : Planned) : Type 0 where
  pub no_stop : o.stop ≡ None
  pub image_is : o.image ≡ image
  pub all_good : o.totals.good ≡ o.totals.sectors
  pub each : (n sector : ℕ) → IsSectorOf format n sector
      → IsSaidGood plan format streams o n sector (line_number format n sector)

-- From any streams that capture each of an image's written tracks as often as the plan asks for,
-- once at least, each disturbed within the bounds, what is read by the plan is exactly that image,
-- every sector good. A clock that is held asks that the drives keep their speed.
abbrev pub CapturedPlansAreRead : Type 0
CapturedPlansAreRead = (plan : Plan) (format : Format) (image x : List ℕ) (o : Planned) → 1 ≤ plan.captures → IsImage format image
    → (set : IsCapturedSet format plan.captures image x) → (IsUsed plan.clocks Held → IsSteadySet format plan.captures image x set)
    → IsPlanned plan (part_by plan.naming) format (streams_in plan x) o
    → IsReadWhole plan format image (streams_in plan x) o

-- a sector of track number n is good, with its own bytes
pub record IsReadWell (plan : Plan) (format : Format) (image : List ℕ) (streams : Streams)
    (o : Planned) (n sector number : ℕ) : Type 0 where
  pub good : IsSaidGood plan format streams o n sector number
  pub own : bytes_at format o.image (track_at format n) sector
      ≡ sector_bytes format (track_at format n) image sector

-- it is bad or missing, and the image has zeros in its place
pub record IsLost (plan : Plan) (format : Format) (streams : Streams) (o : Planned)
    (n sector number : ℕ) : Type 0 where
  pub said : IsSaid plan format streams o n sector number
  pub lost : IsBadOrMissing (verdict (joined said.captures) sector)
  pub zeros : bytes_at format o.image (track_at format n) sector
      ≡ replicate (row format).sector_size 0

-- All tracks are read. A sector that lies whole, as this says it, is read well; every other one is
-- read well or lost, so that no line says contradictory.
pub record IsReadInPart (plan : Plan) (format : Format) (image : List ℕ) (streams : Streams)
    (o : Planned) (LiesWhole : (n sector : ℕ) → Type 0) : Type 0 where
  pub no_stop : o.stop ≡ None
  pub in_one_piece : (n sector : ℕ) → IsSectorOf format n sector → LiesWhole n sector
      → IsReadWell plan format image streams o n sector (line_number format n sector)
  pub each : (n sector : ℕ) → IsSectorOf format n sector
      → let number = line_number format n sector in
      IsReadWell plan format image streams o n sector number
      ⊎ IsLost plan format streams o n sector number

-- Erased stretches do no harm beyond them, and what one capture lost another one gives.
abbrev pub ErasedPlansAreRead : Type 0
ErasedPlansAreRead =
    (plan : Plan) (format : Format) (image x : List ℕ) (o : Planned) → IsImage format image
    → (set : IsErasedSet format plan.captures image x) → (IsUsed plan.clocks Held → IsSteadyErasedSet format plan.captures image x set)
    → IsPlanned plan (part_by plan.naming) format (streams_in plan x) o
    → IsReadInPart plan format image (streams_in plan x) o
    (LiesInACapture format plan.captures image x set)

-- no place of a capture at which a sector stands whole, as at each good reading of the strict
-- rule, has cells of two pieces
abbrev pub StandInOnePiece : (plan : Plan) (format : Format) (image x : List ℕ)
    → IsErasedSet format plan.captures image x → Type 0
StandInOnePiece plan format image x set =
    (n q : ℕ) (known : n < length (tracks format)) (low : q < plan.captures) (sector place : ℕ)
    (bytes : List ℕ)
    → sector_at format (track_at format n)
    (drop place (cells_in format (streams_in plan x) n q Following)) sector bytes
    → StandsInOnePiece (λ cells. sector_at format (track_at format n) cells sector bytes)
    (pieces_of_capture format plan.captures image x set n q known low) (cells_in format (streams_in plan x) n q Following) place

-- So it is by the clock that follows the drive, wherever stretches are erased, and
-- whatever speed the drives keep.
abbrev pub ErasedPlansStandInOnePiece : Type 0
ErasedPlansStandInOnePiece =
    (plan : Plan) (format : Format) (image x : List ℕ) → IsImage format image
    → (set : IsErasedSet format plan.captures image x) → StandInOnePiece plan format image x set

-- a sector's own bytes are held where its verdict is good, and zeros where it is
-- contradictory; it is never bad or missing
abbrev pub IsOwnOrContradictory : Format → (own held : List ℕ) → Verdict → Type 0
IsOwnOrContradictory format own held (Good good bad first) = held ≡ own
IsOwnOrContradictory format own held (Contradictory good bad first other) =
    held ≡ replicate (row format).sector_size 0
IsOwnOrContradictory format own held (Bad bad first) = ⊥
IsOwnOrContradictory format own held Missing = ⊥

-- a sector of track number n, in the report and in the image, is good with
-- its own bytes, or contradictory
pub record IsReadRightly (plan : Plan) (format : Format) (image : List ℕ) (streams : Streams)
    (o : Planned) (n sector number : ℕ) : Type 0 where
  pub said : IsSaid plan format streams o n sector number
  pub is : IsOwnOrContradictory format (sector_bytes format (track_at format n) image sector)
      (bytes_at format o.image (track_at format n) sector) (verdict (joined said.captures) sector)

-- All tracks are read, and no sector is wrong unsaid.
pub record IsNeverWrong (plan : Plan) (format : Format) (image x : List ℕ)
    (o : Planned) : Type 0 where
  pub no_stop : o.stop ≡ None
  pub each : (n sector : ℕ) → IsSectorOf format n sector
      → IsReadRightly plan format image (streams_in plan x) o n sector (line_number format n sector)

-- From any such streams what is read by the plan is never wrong unsaid, whatever a held clock reads
-- where the drives do not keep their speed: a sector that is called good has its own bytes, and
-- every other one is called contradictory.
abbrev pub CapturedPlansAreNeverWrong : Type 0
CapturedPlansAreNeverWrong = (plan : Plan) (format : Format) (image x : List ℕ) (o : Planned)
    → 1 ≤ plan.captures → IsImage format image
    → IsCapturedSet format plan.captures image x
    → IsPlanned plan (part_by plan.naming) format (streams_in plan x) o
    → IsNeverWrong plan format image x o

-- no header of another name is read of any track by the plan
abbrev pub HaveNoOthers : Plan → Format → (x : List ℕ) → Type 0
HaveNoOthers plan format x = (n : ℕ) (others : List NotedOther) → n < length (tracks format)
    → AreOthersTo plan format (streams_in plan x) n plan.captures others → others ≡ []

-- so it is with any such streams, whole or erased in parts
abbrev pub CapturedPlansHaveNoOthers : Type 0
CapturedPlansHaveNoOthers = (plan : Plan) (format : Format) (image x : List ℕ)
    → IsImage format image → (set : IsCapturedSet format plan.captures image x)
    → (IsUsed plan.clocks Held → IsSteadySet format plan.captures image x set)
    → HaveNoOthers plan format x

abbrev pub ErasedPlansHaveNoOthers : Type 0
ErasedPlansHaveNoOthers = (plan : Plan) (format : Format) (image x : List ℕ) → IsImage format image
    → (set : IsErasedSet format plan.captures image x)
    → (IsUsed plan.clocks Held → IsSteadyErasedSet format plan.captures image x set) → HaveNoOthers plan format x
