-- What telling the revolutions of a dump may answer, and what that says of the dump and of the
-- bytes that were written.
use Rattle.std.specs.Prelude.{◌≡◌, ◌≤◌, ◌⊎◌, ℕ, List, [], ◌∷◌, ◌++◌, length, Option, Some, None}
use Rattle.std.specs.Prelude.{Result, Ok, Err}
use Rattle.std.specs.Io.KnownBytes.{Appends, Keeps}
use Rattle.flux_engine.specs.Answers.{AppendsAndPart}
use Rattle.flux_engine.specs.LoopProgress.{lost_count}
use Rattle.track_shelf.specs.Files.{File}
use Rattle.flux_engine.specs.declared.fault.Stopped.{Stopped}
use Rattle.flux_engine.specs.declared.fault.Stopped.TheVariants.{ReadFault, ImageFault}
use Rattle.flux_engine.specs.declared.fault.Stopped.TheVariants.{NotesFault, Refused}
use Rattle.dump_reading.specs.Files.{ShelfNow}
use Rattle.dump_reading.specs.declared.fault.NoFiles.{NoFiles}
use Rattle.dump_turns.specs.Files.{AreFound, means_in}
use Rattle.dump_turns.specs.Lines.{end_text, file_lines, found_text, totals_of}
use Rattle.dump_turns.specs.Reaches.{IsBoundedReach, IsReachOf, count_in, track_number}
use Rattle.dump_turns.specs.Spreads.{IsSpreadOf}
use Rattle.dump_turns.specs.declared.found.Found.{Found}
use Rattle.dump_turns.specs.declared.measured.DumpTurns.{DumpTurns}
use Rattle.dump_turns.specs.declared.reach.Reach.{Reach}
use Rattle.dump_turns.specs.declared.spread.Spread.{Spread}
use Rattle.dump_turns.specs.declared.totals.TurnTotals.{TurnTotals}

-- where the dump's files are told, so far they reach
abbrev pub IsReachTold : Option (List File) → (dump : List ℕ) → Option Reach → Type 0
IsReachTold None dump reach = Unit {0}
IsReachTold (Some files) dump reach = IsReachOf files dump reach

-- this is found of the first files of the tracks of a dump
pub record HasFound (dump : List ℕ) (start now : ShelfNow) (reach : Reach)
    (founds : List Found) : Type 0 where
  pub reach_is : IsReachTold start.told.files dump (Some reach)
  pub bounded : IsBoundedReach reach
  pub few : length founds ≤ count_in reach
  pub are : AreFound dump reach start now founds

-- of all of them, and so far the means lie apart
pub record HasFoundAll (dump : List ℕ) (start now : ShelfNow) (reach : Reach)
    (founds : List Found) (spread : Option Spread) : Type 0 where
  pub found : HasFound dump start now reach founds
  pub all : length founds ≡ count_in reach
  pub apart : IsSpreadOf (means_in founds) spread

-- They were measured, and counted; as many failed as reading them says.
pub record HasMeasured (dump : List ℕ) (start now : ShelfNow) (founds : List Found)
    (turns : DumpTurns) : Type 0 where
  pub all : HasFoundAll dump start now turns.reach founds turns.spread
  pub totals_are : turns.totals ≡ totals_of founds turns.spread
  pub lost : turns.totals.failed ≡ lost_count all.found.are.came

-- what measuring says; of a dump without files nothing was read
abbrev pub SaysOfMeasuring : (dump : List ℕ) → (start now : ShelfNow) → List Found
    → Option DumpTurns → Type 0
SaysOfMeasuring dump start now founds None =
    IsReachTold start.told.files dump None × (now ≡ start)
SaysOfMeasuring dump start now founds (Some turns) = HasMeasured dump start now founds turns

-- all lines were written
pub record WroteTurns (dump : List ℕ) (start now : ShelfNow) (lines lines' : Option (List ℕ))
    (totals : TurnTotals) : Type 0 where
  pub reach : Reach
  pub founds : List Found
  pub spread : Option Spread
  pub all : HasFoundAll dump start now reach founds spread
  pub grew : Appends lines lines' (file_lines reach founds ++ end_text reach founds spread)
  pub totals_are : totals ≡ totals_of founds spread

-- the lines of the first files were written, and of the next one's line a part that is
-- shorter than it
pub record WroteIntoFile (dump : List ℕ) (start now : ShelfNow)
    (lines lines' : Option (List ℕ)) : Type 0 where
  pub reach : Reach
  pub founds : List Found
  pub next : Found
  pub found : HasFound dump start now reach (founds ++ next ∷ [])
  pub grew : AppendsAndPart lines lines' (file_lines reach founds)
      (found_text (track_number reach (length founds)) next)

-- those of all files were, and a part of the lines behind them
pub record WroteIntoEnd (dump : List ℕ) (start now : ShelfNow)
    (lines lines' : Option (List ℕ)) : Type 0 where
  pub reach : Reach
  pub founds : List Found
  pub spread : Option Spread
  pub all : HasFoundAll dump start now reach founds spread
  pub grew : AppendsAndPart lines lines' (file_lines reach founds) (end_text reach founds spread)

-- What an answer says. A dump without files is told before anything is written, and nothing of it
-- was read; a file that fails ends nothing. Nothing is written to notes.
abbrev pub SaysOfTurns : (dump : List ℕ) → (start now : ShelfNow)
    → (lines lines' : Option (List ℕ)) → Result TurnTotals (Stopped NoFiles) → Type 0
SaysOfTurns dump start now lines lines' (Ok totals) =
    WroteTurns dump start now lines lines' totals
SaysOfTurns dump start now lines lines' (Err ReadFault) = ⊥
SaysOfTurns dump start now lines lines' (Err (Refused empty)) =
    (empty.dump ≡ 0) × IsReachTold start.told.files dump None × (now ≡ start) × Keeps lines lines'
SaysOfTurns dump start now lines lines' (Err ImageFault) =
    WroteIntoFile dump start now lines lines' ⊎ WroteIntoEnd dump start now lines lines'
SaysOfTurns dump start now lines lines' (Err NotesFault) = ⊥
