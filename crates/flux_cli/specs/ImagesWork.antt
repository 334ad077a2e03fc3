-- The works that make something of an image: `write`, and others.
use Rattle.std.specs.Prelude.{◌≡◌, ◌==◌, ◌<◌, ◌≤◌, ℕ, ◌++◌, List, [], length, drop, min}
use Rattle.std.specs.Prelude.{if◌then◌else◌}
use Rattle.flux_base.specs.declared.status.Status.{Status}
use Rattle.flux_base.specs.declared.status.Status.TheVariants.{AllGood, Refused, ReadFault}
use Rattle.flux_base.specs.declared.status.Status.TheVariants.{ImageFault, NotesFault}
use Rattle.flux_engine.specs.Rings.{streams_of}
use Rattle.flux_engine.specs.Writes.{most_read}
use Rattle.sector_images.specs.Formats.{row}
use Rattle.sector_images.specs.declared.format.Format.{Format}
use Rattle.sector_report.specs.Lines.{image_text}
use Rattle.flux_cli.specs.BytesWork.{BytesWork}
use Rattle.flux_cli.specs.Work.{Outcome, Growth, GotNothing, GivesFront, ends_in_memory}

-- an image is taken to its end, and of other bytes no more than one more than it has
abbrev pub image_leaves : Format → Status → (x later : List ℕ) → Type 0
image_leaves format AllGood x later = later ≡ []
image_leaves format Refused x later = later ≡ drop (most_read format) x
image_leaves format _ x later = ⊥

-- the source failed inside an image, of which no more was taken than
-- it has, and nothing was written
pub record CutInBytes (format : Format) (taken : List ℕ) (image notes : Growth) : Type 0 where
  pub few : length taken ≤ (row format).image_size
  pub image_got : GotNothing image
  pub notes_got : GotNothing notes

module _ (made_of : List ℕ → List ℕ) (format : Format) where
  -- what is made of an image, and why other bytes are refused: of these no more are counted
  -- than one more than an image has
  abbrev pub image_outcome : List ℕ → Outcome
  image_outcome x =
      if length x == (row format).image_size
      then record { status = AllGood; image = made_of x; notes = [] }
      else record { status = Refused; image = []; notes = image_text (min (length x) (most_read format)) (row format).image_size }

  abbrev pub image_cut : Status → (taken later : List ℕ) → (image notes : Growth) → Type 0
  image_cut ReadFault taken later image notes = CutInBytes format taken image notes
  image_cut ImageFault taken later image notes =
      GivesFront (image_outcome (taken ++ later)) image notes × (later ≡ [])
  image_cut NotesFault taken later image notes =
      GivesFront (image_outcome (taken ++ later)) image notes
      × (later ≡ drop (most_read format) (taken ++ later))
  image_cut _ taken later image notes = ⊥

  -- after no more bytes than an image has, more may follow
  abbrev pub image_work : BytesWork
  image_work = record {
    ends = ends_in_memory;
    gives = λ x o. o ≡ image_outcome x;
    untold = λ x. length x < most_read format;
    leaves = image_leaves format;
    cut = image_cut;
  }

-- the streams of an image's tracks
abbrev pub write_work : Format → BytesWork
write_work format = image_work (streams_of format) format
