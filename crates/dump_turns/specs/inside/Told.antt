-- What was told of the first files of a dump, and of which size its numbers are.
use Rattle.std.specs.Prelude.{◌≡◌, ◌<◌, ◌≤◌, ℕ, List, [], ◌∷◌, ◌++◌, length, Option, Result, Ok}
use Rattle.std.specs.Prelude.{Err}
use Rattle.std.specs.Io.KnownBytes.{Appends}
use Rattle.flux_base.specs.declared.outside.Failed.{Failed}
use Rattle.flux_engine.specs.Answers.{AppendsAndPart}
use Rattle.dump_turns.specs.Lines.{file_lines, found_text}
use Rattle.dump_turns.specs.Reaches.{count_in, track_number}
use Rattle.dump_turns.specs.Turns.{IsBoundedTurns}
use Rattle.dump_turns.specs.declared.found.Found.{Found}
use Rattle.dump_turns.specs.declared.found.Found.TheVariants.{PassedOver, Read}
use Rattle.dump_turns.specs.declared.reach.Reach.{Reach}
use Rattle.dump_turns.specs.declared.totals.TurnTotals.{TurnTotals}

abbrev pub IsBoundedFound : Found → Type 0
IsBoundedFound (PassedOver why) = Unit {0}
IsBoundedFound (Read turns) = IsBoundedTurns turns

-- no count is as great as that
pub record AreBelow (bound : ℕ) (totals : TurnTotals) : Type 0 where
  pub files : totals.files < bound
  pub refused : totals.refused < bound
  pub missing : totals.missing < bound
  pub uneven : totals.uneven < bound
  pub failed : totals.failed < bound

-- the line of the last one was cut
pub record CutFile (reach : Reach) (lines lines' : Option (List ℕ))
    (founds : List Found) : Type 0 where
  pub before : List Found
  pub next : Found
  pub are : founds ≡ before ++ next ∷ []
  pub few : length founds ≤ count_in reach
  pub grew : AppendsAndPart lines lines' (file_lines reach before)
      (found_text (track_number reach (length before)) next)

-- the lines of all files were written
pub record ToldAll (reach : Reach) (lines lines' : Option (List ℕ))
    (founds : List Found) : Type 0 where
  pub all : length founds ≡ count_in reach
  pub grew : Appends lines lines' (file_lines reach founds)

-- or that of the last one was cut
abbrev pub FoundInto : Reach → (lines lines' : Option (List ℕ)) → List Found
    → Result (Unit {0}) Failed → Type 0
FoundInto reach lines lines' founds (Ok _) = ToldAll reach lines lines' founds
FoundInto reach lines lines' founds (Err _) = CutFile reach lines lines' founds
