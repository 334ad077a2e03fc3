-- What was written of the first tracks.
use Rattle.std.specs.Prelude.{◌≡◌, ◌<◌, ℕ, List, [], ◌∷◌, ◌++◌, flat_map, length, Option}
use Rattle.std.specs.Prelude.{Result, Ok, Err}
use Rattle.std.specs.Io.KnownBytes.{Appends}
use Rattle.flux_base.specs.Outside.{AppendsPart}
use Rattle.dump_reading.specs.Files.{ShelfNow}
use Rattle.dump_reading.specs.declared.fault.NoFiles.{NoFiles}
use Rattle.dump_turns.specs.Reaches.{count_in}
use Rattle.dump_turns.specs.declared.reach.Reach.{Reach}
use Rattle.flux_engine.specs.Answers.{AppendsAndPart}
use Rattle.flux_engine.specs.declared.fault.Stopped.{Stopped}
use Rattle.flux_engine.specs.declared.fault.Stopped.TheVariants.{ReadFault, ImageFault}
use Rattle.flux_engine.specs.declared.fault.Stopped.TheVariants.{NotesFault, Refused}
use Rattle.imd_image.specs.Found.{TrackFound, file_part}
use Rattle.imd_image.specs.Lines.{lines_part}
use Rattle.imd_image.specs.Outcomes.{DumpsAsked, HaveFound, lines_of}
use Rattle.imd_image.specs.Totals.{totals_of}
use Rattle.imd_image.specs.declared.totals.ImdTotals.{ImdTotals}

-- what a track adds was written, or its record was cut, or its lines were
abbrev pub WroteTrack : (dumps : ℕ) → TrackFound → (file file' notes notes' : Option (List ℕ))
    → {A : Type 0} → Result A (Stopped NoFiles) → Type 0
WroteTrack dumps found file file' notes notes' (Ok _) =
    Appends file file' (file_part found) × Appends notes notes' (lines_part dumps found)
WroteTrack dumps found file file' notes notes' (Err ImageFault) =
    AppendsPart file file' (file_part found) × (notes' ≡ notes)
WroteTrack dumps found file file' notes notes' (Err NotesFault) =
    Appends file file' (file_part found) × AppendsPart notes notes' (lines_part dumps found)
WroteTrack dumps found file file' notes notes' _ = ⊥

-- all tracks were
pub record WroteTracks (asked : DumpsAsked) (start now : ShelfNow) (reach : Reach)
    (file file' notes notes' : Option (List ℕ)) (founds : List TrackFound)
    : Type 0 where
  pub have : HaveFound asked start now reach founds
  pub file_is : Appends file file' (flat_map file_part founds)
  pub notes_are : Appends notes notes' (lines_of asked founds)

pub record WroteAll (asked : DumpsAsked) (start now : ShelfNow) (reach : Reach)
    (file file' notes notes' : Option (List ℕ)) (totals : ImdTotals) : Type 0 where
  pub founds : List TrackFound
  pub all : length founds ≡ count_in reach
  pub wrote : WroteTracks asked start now reach file file' notes notes' founds
  pub totals_are : totals ≡ totals_of founds

-- the record of one was cut
pub record CutRecord (asked : DumpsAsked) (start now : ShelfNow) (reach : Reach)
    (file file' notes notes' : Option (List ℕ)) : Type 0 where
  pub founds : List TrackFound
  pub next : TrackFound
  pub few : length founds < count_in reach
  pub have : HaveFound asked start now reach (founds ++ next ∷ [])
  pub file_is : AppendsAndPart file file' (flat_map file_part founds) (file_part next)
  pub notes_are : Appends notes notes' (lines_of asked founds)

-- or the lines of one were
pub record CutLines (asked : DumpsAsked) (start now : ShelfNow) (reach : Reach)
    (file file' notes notes' : Option (List ℕ)) : Type 0 where
  pub founds : List TrackFound
  pub next : TrackFound
  pub few : length founds < count_in reach
  pub have : HaveFound asked start now reach (founds ++ next ∷ [])
  pub file_is : Appends file file' (flat_map file_part (founds ++ next ∷ []))
  pub notes_are : AppendsAndPart notes notes' (lines_of asked founds)
      (lines_part (length asked.names) next)

abbrev pub ToldTracks : DumpsAsked → (start now : ShelfNow) → Reach
    → (file file' notes notes' : Option (List ℕ)) → Result ImdTotals (Stopped NoFiles) → Type 0
ToldTracks asked start now reach file file' notes notes' (Ok totals) =
    WroteAll asked start now reach file file' notes notes' totals
ToldTracks asked start now reach file file' notes notes' (Err ImageFault) =
    CutRecord asked start now reach file file' notes notes'
ToldTracks asked start now reach file file' notes notes' (Err NotesFault) =
    CutLines asked start now reach file file' notes notes'
ToldTracks asked start now reach file file' notes notes' _ = ⊥
