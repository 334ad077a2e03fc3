-- What is known of an outcome whatever the input is, and where that is one that the laws speak of:
-- the streams of captured disks and sets, whole or erased in parts, a file that was written of an
-- image, and a trial without a hole.
use Rattle.std.specs.Prelude.{◌≡◌, ℕ, List, [], length, sum}
use Rattle.flux_base.specs.declared.status.Status.{Status}
use Rattle.flux_base.specs.declared.status.Status.TheVariants.{AllGood, NotAllGood}
use Rattle.flux_base.specs.declared.track.TrackId.{TrackId}
use Rattle.flux_engine.specs.Captured.{IsUsed}
use Rattle.flux_engine.specs.DiskLaws.{HasLine}
use Rattle.flux_engine.specs.Plans.{Planned, streams_in}
use Rattle.flux_engine.specs.Recordings.{track_at}
use Rattle.flux_engine.specs.Rings.{IsImage}
use Rattle.flux_engine.specs.declared.plan.Plan.{Plan}
use Rattle.flux_trial.specs.Image.{trial_image}
use Rattle.flux_trial.specs.Laws.{HasNoHole, all_good}
use Rattle.g64_image.specs.FileDisks.{FileDisk}
use Rattle.g64_image.specs.Laws.{ComesBack, IsRightlyGoodInFile}
use Rattle.g64_image.specs.Layout.{g64_file}
use Rattle.law_captured_plans.specs.Headline.{IsNeverWrong, IsReadInPart, IsReadWhole}
use Rattle.law_captured_plans.specs.Headline.{StandInOnePiece}
use Rattle.law_captured_plans.specs.Inputs.{IsCapturedSet, IsErasedSet, IsSteadyErasedSet}
use Rattle.law_captured_plans.specs.Inputs.{IsSteadySet, LiesInACapture}
use Rattle.law_captured_plans.specs.Said.{AreRightLines}
use Rattle.sector_images.specs.Places.{tracks}
use Rattle.sector_images.specs.declared.format.Format.{Format}
use Rattle.sector_report.specs.LineLaws.{LineFits}
use Rattle.sector_report.specs.Lines.{sector_text, trial_text}
use Rattle.sector_report.specs.declared.naming.Naming.TheVariants.{Unnamed}
use Rattle.turn_merge.specs.declared.clock.Clock.TheVariants.{Held}
use Rattle.turn_merge.specs.declared.verdict.Place.{Place}
use Rattle.turn_merge.specs.declared.verdict.Verdict.TheVariants.{Good}
use Rattle.flux_cli.specs.PlanWork.{to_image, to_notes}
use Rattle.flux_cli.specs.Work.{Outcome}
use Rattle.flux_words.specs.declared.commands.Output.{Output}
use Rattle.flux_words.specs.declared.commands.Output.TheVariants.{ImageAndReport, ReportAlone}
use Rattle.flux_words.specs.declared.commands.Output.TheVariants.{Picture}

-- the disk was read to its end, and not refused
abbrev pub WasRead : Status → Type 0
WasRead AllGood = Unit {0}
WasRead NotAllGood = Unit {0}
WasRead _ = ⊥

-- the outcome is that of a disk that was read by a plan, of which this holds
pub record IsOfPlanned (output : Output) (format : Format) (Holds : Planned → Type 0)
    (o : Outcome) : Type 0 where
  pub planned : Planned
  pub image_is : o.image ≡ to_image output format planned
  pub notes_are : o.notes ≡ to_notes output planned
  pub holds : Holds planned

-- the outcome is that of a file of which this holds
pub record IsOfFile (Holds : FileDisk → Type 0) (o : Outcome) : Type 0 where
  pub disk : FileDisk
  pub image_is : o.image ≡ disk.image
  pub notes_are : o.notes ≡ disk.notes
  pub holds : Holds disk

-- A line of a file's report that says good tells a sector whose cells hold it at the place that it
-- names, with the bytes that the image has of it.
abbrev pub AreRightInFile : Format → (file : List ℕ) → FileDisk → Type 0
AreRightInFile format file d = (track : TrackId) (sector good bad : ℕ) (first : Place) (number : ℕ)
    → LineFits Unnamed track sector (Good good bad first)
    → HasLine d.notes (sector_text track sector (Good good bad first)) number
    → (n : ℕ) × (track ≡ track_at format n) × IsRightlyGoodInFile format file d.image n sector first

-- What is promised of the streams of a disk that are read by a plan.
pub record OfStreams (plan : Plan) (output : Output) (format : Format) (x : List ℕ)
    (o : Outcome) : Type 0 where
  -- Whatever the input is: a line that says good is right. It names the capture and the clock,
  -- where the plan has several, the turn and a place there whose cells hold the sector, with the
  -- bytes that the image has of it.
  pub told : WasRead o.status → IsOfPlanned output format (AreRightLines plan format (streams_in plan x)) o
  -- The headline. From any streams that capture each of an image's written tracks as often as the
  -- plan asks for, disturbed within the bounds, exactly that image, every sector good. A clock that
  -- is held asks that the drives keep their speed.
  pub captured : (image : List ℕ) → IsImage format image
      → (set : IsCapturedSet format plan.captures image x)
      → (IsUsed plan.clocks Held → IsSteadySet format plan.captures image x set)
      → (o.status ≡ AllGood)
      × IsOfPlanned output format (IsReadWhole plan format image (streams_in plan x)) o
  -- Whatever speed they have: each sector good with its own bytes, or contradictory.
  pub never_wrong : (image : List ℕ) → IsImage format image
      → IsCapturedSet format plan.captures image x
      → WasRead o.status × IsOfPlanned output format (IsNeverWrong plan format image x) o
  -- Beside erased stretches each sector that one capture has whole between them; every other one
  -- good with its own bytes or lost, none contradictory.
  pub erased : (image : List ℕ) → IsImage format image
      → (set : IsErasedSet format plan.captures image x)
      → (IsUsed plan.clocks Held → IsSteadyErasedSet format plan.captures image x set)
      → WasRead o.status × IsOfPlanned output format (λ d. IsReadInPart plan format image
      (streams_in plan x) d (LiesInACapture format plan.captures image x set)) o
  -- No sector stands in cells of two pieces.
  pub one_piece : (image : List ℕ) → IsImage format image
      → (set : IsErasedSet format plan.captures image x)
      → StandInOnePiece plan format image x set

-- of a picture its row says all
abbrev pub OfShown : Plan → Output → Format → (x : List ℕ) → Outcome → Type 0
OfShown plan ImageAndReport format x o = OfStreams plan ImageAndReport format x o
OfShown plan ReportAlone format x o = OfStreams plan ReportAlone format x o
OfShown plan Picture format x o = Unit {0}

-- `from-g64`: a line that says good is right, and a file that was written of an image comes back
pub record OfFile (format : Format) (x : List ℕ) (o : Outcome) : Type 0 where
  pub told : WasRead o.status → IsOfFile (AreRightInFile format x) o
  pub written : (image : List ℕ) → IsImage format image → x ≡ g64_file format image
      → (o.status ≡ AllGood) × IsOfFile (ComesBack format image) o

-- `trial` of a number without a hole: every sector is good, and the
-- sum is that of the trial's image
abbrev pub OfTrial : Format → (seed : ℕ) → Outcome → Type 0
OfTrial format seed o = HasNoHole seed → o ≡ record {
  status = AllGood;
  image = trial_text format seed (length (tracks format)) (all_good format)
      (sum (trial_image format seed));
  notes = [];
}
