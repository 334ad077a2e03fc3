-- What the trials of numbers without a hole come to.
use Rattle.std.specs.Prelude.{◌≡◌, ◌<◌, ℕ, List, length, sum, sum_by}
use Rattle.law_captured_plans.specs.Inputs.{IsCapturedSet}
use Rattle.flux_engine.specs.Captures.{Capture}
use Rattle.flux_engine.specs.Rings.{nominal_of}
use Rattle.sector_images.specs.Formats.{zone}
use Rattle.sector_images.specs.Places.{tracks}
use Rattle.sector_images.specs.declared.format.Format.{Format}
use Rattle.sector_report.specs.Lines.{trial_text}
use Rattle.sector_report.specs.declared.totals.Totals.{Totals}
use Rattle.flux_trial.specs.Hole.{hole_cells}
use Rattle.flux_trial.specs.Image.{trial_image}
use Rattle.flux_trial.specs.Tracks.{IsTrialLine, trial_input, trial_ring, trial_stream}

-- the seed leaves no hole
abbrev pub HasNoHole : (seed : ℕ) → Type 0
HasNoHole seed = hole_cells seed ≡ 0

-- a seed below 1000 leaves none
abbrev pub SmallSeedsHaveNoHole : Type 0
SmallSeedsHaveNoHole = (seed : ℕ) → seed < 1000 → HasNoHole seed

-- A drive without a hole keeps within the bounds of disturbance: the stream that it gives of a
-- track captures the track's ring.
abbrev pub TrialsAreCaptures : Type 0
TrialsAreCaptures = (format : Format) (seed k : ℕ) → HasNoHole seed → k < length (tracks format)
    → Capture (trial_stream format seed k) (trial_ring format seed k) (nominal_of format k)

-- so its streams capture the trial's image, each track once
abbrev pub TrialsAreCapturedDisks : Type 0
TrialsAreCapturedDisks = (format : Format) (seed : ℕ) → HasNoHole seed
    → IsCapturedSet format 1 (trial_image format seed) (trial_input format seed)

-- the sectors of all tracks
abbrev pub sectors_of_all : Format → ℕ
sectors_of_all format = sum_by (λ track. (zone format track.cylinder).sectors) (tracks format)

-- the totals of a disk all of whose sectors are good
abbrev pub all_good : Format → Totals
all_good format =
    record { sectors = sectors_of_all format; good = sectors_of_all format; bad = 0; missing = 0; contradictory = 0 }

-- The line of a trial without a hole is known beforehand: every sector is good, and the sum
-- is that of the trial's image.
abbrev pub WholeTrialsHaveOneLine : Type 0
WholeTrialsHaveOneLine =
    (format : Format) (seed : ℕ) (line : List ℕ) → HasNoHole seed → IsTrialLine format seed line
    → line
    ≡ trial_text format seed (length (tracks format)) (all_good format)
    (sum (trial_image format seed))
