-- What the definition of what is told of a dump's turns comes to.
use Rattle.std.specs.Prelude.{◌≡◌, ◌++◌, ℕ, List, Option, Some, None}
use Rattle.track_shelf.specs.Files.{File}
use Rattle.dump_reading.specs.DumpStreams.{FailedAlike}
use Rattle.dump_reading.specs.Files.{ShelfNow}
use Rattle.dump_turns.specs.Lines.{end_text, file_lines, totals_of}
use Rattle.dump_turns.specs.Outcomes.{HasFoundAll, IsReachTold}
use Rattle.dump_turns.specs.declared.found.Found.{Found}
use Rattle.dump_turns.specs.declared.reach.Reach.{Reach}
use Rattle.dump_turns.specs.declared.spread.Spread.{Spread}
use Rattle.dump_turns.specs.declared.totals.TurnTotals.{TurnTotals}

-- all that is told of a dump: the lines, and the totals
pub record TurnsTold : Type 0 where
  pub lines : List ℕ
  pub totals : TurnTotals

abbrev pub told_of : Reach → List Found → Option Spread → TurnsTold
told_of reach founds spread =
    record {
      lines = file_lines reach founds ++ end_text reach founds spread;
      totals = totals_of founds spread;
    }

-- The files, and which of them failed, decide all that is told.
abbrev pub TurnsAreOne : Type 0
TurnsAreOne = (dump : List ℕ) (files : List File) (start now start' now' : ShelfNow)
    → start.told.files ≡ Some files → start'.told.files ≡ Some files
    → (reach reach' : Reach) (founds founds' : List Found) (spread spread' : Option Spread)
    → (one : HasFoundAll dump start now reach founds spread)
    (other : HasFoundAll dump start' now' reach' founds' spread')
    → FailedAlike one.found.are.came other.found.are.came
    → told_of reach founds spread ≡ told_of reach' founds' spread'

-- nothing is told of a dump without files
abbrev pub NoFilesAreNoTurns : Type 0
NoFilesAreNoTurns = (dump : List ℕ) (files : List File) (start now : ShelfNow)
    → start.told.files ≡ Some files → (reach : Reach) (founds : List Found) (spread : Option Spread)
    → HasFoundAll dump start now reach founds spread → IsReachTold (Some files) dump None → ⊥
