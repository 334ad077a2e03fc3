-- What `imd` does: each file of the dumps is read once on the shelf, without any format, and what is
-- found is written as a file of ImageDisk.
use Rattle.std.specs.Prelude.{◌≡◌, ◌⊎◌, ◌&&◌, ◌++◌, nat_lt, not, ℕ, List, if◌then◌else◌}
use Rattle.std.specs.Prelude.{Option, Some, None}
use Rattle.dump_reading.specs.Files.{ShelfNow}
use Rattle.dump_turns.specs.declared.reach.Reach.{Reach}
use Rattle.flux_base.specs.declared.status.Status.{Status}
use Rattle.flux_base.specs.declared.status.Status.TheVariants.{AllGood, NotAllGood, ImageFault}
use Rattle.flux_base.specs.declared.status.Status.TheVariants.{NotesFault, ShelfFault}
use Rattle.imd_image.specs.Found.{TrackFound}
use Rattle.imd_image.specs.Lines.{end_text}
use Rattle.imd_image.specs.Outcomes.{AllFound, CutInBegin, CutInEnd, CutInLines, CutInRecord}
use Rattle.imd_image.specs.Outcomes.{DumpsAsked, file_of, lines_of}
use Rattle.imd_image.specs.Reaches.{IsWithout}
use Rattle.imd_image.specs.Totals.{asks, is_complete, totals_of}
use Rattle.imd_image.specs.declared.totals.ImdTotals.{ImdTotals}
use Rattle.track_shelf.specs.Files.{File}
use Rattle.track_shelf.specs.declared.stepping.Stepping.{Stepping}
use Rattle.flux_cli.specs.ShelfWork.{TellsEmpty, dumps_work, empty_outcome}
use Rattle.flux_cli.specs.Work.{Growth, Outcome, GotNothing, GotPart, Work}

-- whether a file failed, and else whether all is in the file, and no other stepping is asked for
abbrev pub imd_status : Stepping → ImdTotals → Status
imd_status stepping totals =
    if nat_lt 0 totals.failed then ShelfFault
    else (if is_complete totals && not (asks stepping totals) then AllGood else NotAllGood)

abbrev pub imd_outcome : DumpsAsked → List TrackFound → Outcome
imd_outcome asked founds = record {
  status = imd_status asked.stepping (totals_of founds);
  image = file_of founds;
  notes = lines_of asked founds ++ end_text asked.stepping (totals_of founds);
}

-- what is found of all tracks
pub record ImdFound (asked : DumpsAsked) (start now : ShelfNow) : Type 0 where
  pub reach : Reach
  pub founds : List TrackFound
  pub all : AllFound asked start now reach founds

-- where the files are told, this dump is the first that has none
abbrev pub IsToldWithout : Option (List File) → DumpsAsked → (number : ℕ) → Type 0
IsToldWithout None asked number = Unit {0}
IsToldWithout (Some files) asked number = IsWithout files asked.stepping asked.names number

-- a dump has no file of any track, and the line on it
pub record EmptyImd (asked : DumpsAsked) (start now : ShelfNow) (line : List ℕ) : Type 0 where
  pub number : ℕ
  pub is : IsToldWithout start.told.files asked number
  pub still : now ≡ start
  pub tells : TellsEmpty start.told.files asked.names number line

-- what the dumps come to, by the files that are told, and what the shelf did
abbrev pub IsOutcomeOfImd : DumpsAsked → (start now : ShelfNow) → Outcome → Type 0
IsOutcomeOfImd asked start now o =
    ((line : List ℕ) × EmptyImd asked start now line × (o ≡ empty_outcome line))
    ⊎ ((found : ImdFound asked start now) × (o ≡ imd_outcome asked found.founds))

-- what was written where a fault of a sink cut the work, by the status, which says whose it is
abbrev pub imd_cut : DumpsAsked → Status → (start now : ShelfNow) → (image notes : Growth) → Type 0
imd_cut asked ImageFault start now image notes =
    CutInBegin start now image.before image.after notes.before notes.after
    ⊎ CutInRecord asked start now image.before image.after notes.before notes.after
imd_cut asked NotesFault start now image notes =
    (CutInLines asked start now image.before image.after notes.before notes.after
    ⊎ CutInEnd asked start now image.before image.after notes.before notes.after)
    ⊎ ((line : List ℕ) × EmptyImd asked start now line × GotNothing image × GotPart notes line)
imd_cut asked _ start now image notes = ⊥

abbrev pub imd_work : DumpsAsked → Work ShelfNow
imd_work asked = dumps_work (IsOutcomeOfImd asked) (imd_cut asked)
