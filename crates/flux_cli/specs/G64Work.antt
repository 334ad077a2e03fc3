-- The works of `to-g64` and `from-g64`.
use Rattle.std.specs.Prelude.{◌≡◌, ◌⊎◌, ◌<◌, ◌≤◌, ℕ, ◌+◌, ◌++◌, List, [], drop, length, Option}
use Rattle.std.specs.Prelude.{Some, None}
use Rattle.flux_base.specs.declared.status.Status.{Status}
use Rattle.flux_base.specs.declared.status.Status.TheVariants.{AllGood, NotAllGood, Refused}
use Rattle.flux_base.specs.declared.status.Status.TheVariants.{ReadFault, ImageFault, NotesFault}
use Rattle.g64_image.specs.Answers.{CutOfFile}
use Rattle.flux_engine.specs.declared.track_part.PartFault.TheVariants.{ImageFault as PartImageFault}
use Rattle.flux_engine.specs.declared.track_part.PartFault.TheVariants.{NotesFault as PartNotesFault}
use Rattle.g64_image.specs.Faults.{MOST_BYTES, first_fault}
use Rattle.g64_image.specs.FileDisks.{FileDisk, IsFileDisk}
use Rattle.g64_image.specs.Layout.{g64_file}
use Rattle.g64_image.specs.Lines.{g64_text}
use Rattle.g64_image.specs.declared.fault.G64Fault.{G64Fault}
use Rattle.sector_images.specs.declared.format.Format.{Format}
use Rattle.flux_cli.specs.PlanWork.{status_by}
use Rattle.flux_cli.specs.ImagesWork.{image_work}
use Rattle.flux_cli.specs.BytesWork.{BytesWork}
use Rattle.flux_cli.specs.Work.{Growth, GotNothing, GotPart, Outcome, ends_in_memory}

-- the file of an image
abbrev pub to_g64_work : Format → BytesWork
to_g64_work format = image_work (g64_file format) format

-- why the file is refused, if it is
abbrev pub file_refusal : Option G64Fault → List ℕ
file_refusal None = []
file_refusal (Some fault) = g64_text fault

-- the image, and in the notes the report, or why there is none
abbrev pub from_g64_outcome : FileDisk → Outcome
from_g64_outcome d =
    record { status = status_by d.totals d.stop; image = d.image; notes = d.notes ++ file_refusal d.stop }

-- a file is taken to its end, and a refused one at most to one byte more than a file may have
abbrev pub from_g64_leaves : Status → (x later : List ℕ) → Type 0
from_g64_leaves AllGood x later = later ≡ []
from_g64_leaves NotAllGood x later = later ≡ []
from_g64_leaves Refused x later = later ≡ drop (MOST_BYTES + 1) x
from_g64_leaves _ x later = ⊥

-- the source failed inside the file, and nothing was written
pub record CutInFile (taken : List ℕ) (image notes : Growth) : Type 0 where
  pub few : length taken ≤ MOST_BYTES
  pub image_got : GotNothing image
  pub notes_got : GotNothing notes

-- the file has no fault, and was taken to its end
pub record IsWholeInput (format : Format) (x later : List ℕ) : Type 0 where
  pub no_fault : first_fault format x ≡ None
  pub ended : later ≡ []

-- of a refused file a part of the line was written that says why, which is shorter than it
pub record CutInFileRefusal (format : Format) (x later : List ℕ)
    (image notes : Growth) : Type 0 where
  pub fault : G64Fault
  pub refused : first_fault format x ≡ Some fault
  pub image_got : GotNothing image
  pub notes_got : GotPart notes (g64_text fault)
  pub left : later ≡ drop (MOST_BYTES + 1) x

abbrev pub from_g64_cut : Format → Status → (taken later : List ℕ) → (image notes : Growth) → Type 0
from_g64_cut format ReadFault taken later image notes = CutInFile taken image notes
from_g64_cut format ImageFault taken later image notes =
    IsWholeInput format (taken ++ later) later
    × CutOfFile PartImageFault format (taken ++ later) image.before image.after notes.before
    notes.after
from_g64_cut format NotesFault taken later image notes =
    (IsWholeInput format (taken ++ later) later
    × CutOfFile PartNotesFault format (taken ++ later) image.before image.after notes.before
    notes.after)
    ⊎ CutInFileRefusal format (taken ++ later) later image notes
from_g64_cut format _ taken later image notes = ⊥

-- after no more bytes than a file may have, more may follow
abbrev pub from_g64_work : Format → BytesWork
from_g64_work format = record {
  ends = ends_in_memory;
  gives = λ x o. (d : FileDisk) × IsFileDisk format x d × (o ≡ from_g64_outcome d);
  untold = λ x. length x < MOST_BYTES + 1;
  leaves = from_g64_leaves;
  cut = from_g64_cut format;
}
