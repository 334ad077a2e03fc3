-- The work of `trial`.
use Rattle.std.specs.Prelude.{◌≡◌, ℕ, List, []}
use Rattle.flux_base.specs.declared.status.Status.{Status}
use Rattle.flux_base.specs.declared.status.Status.TheVariants.{AllGood, ImageFault}
use Rattle.flux_trial.specs.Tracks.{IsTrialLine}
use Rattle.sector_images.specs.declared.format.Format.{Format}
use Rattle.flux_cli.specs.BytesWork.{BytesWork}
use Rattle.flux_cli.specs.Work.{Growth, GotNothing, GotPart, ends_in_memory}

-- nothing is read
abbrev pub trial_leaves : Status → (x later : List ℕ) → Type 0
trial_leaves AllGood x later = later ≡ x
trial_leaves _ x later = ⊥

-- a part of the line that is shorter than it
pub record CutInTrialLine (format : Format) (seed : ℕ) (taken : List ℕ)
    (image notes : Growth) : Type 0 where
  pub unread : taken ≡ []
  pub line : List ℕ
  pub is : IsTrialLine format seed line
  pub image_got : GotPart image line
  pub notes_got : GotNothing notes

abbrev pub trial_cut : Format → (seed : ℕ) → Status → (taken later : List ℕ)
    → (image notes : Growth) → Type 0
trial_cut format seed ImageFault taken later image notes =
    CutInTrialLine format seed taken image notes
trial_cut format seed _ taken later image notes = ⊥

abbrev pub trial_work : Format → (seed : ℕ) → BytesWork
trial_work format seed = record {
  ends = ends_in_memory;
  gives = λ x o.
      (line : List ℕ) × IsTrialLine format seed line
      × (o ≡ record { status = AllGood; image = line; notes = [] });
  untold = λ x. ⊥;
  leaves = trial_leaves;
  cut = trial_cut format seed;
}
