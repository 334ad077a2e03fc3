-- How far the looking at a file has come.
use Rattle.std.specs.Prelude.{◌≡◌, ◌≤◌, ◌<◌, ℕ, false, List, [], ◌∷◌, length, Option, Some, None}
use Rattle.std.specs.Io.KnownBytes.{Consumes}
use Rattle.std.specs.List.{sum}
use Rattle.scp_files.specs.Tracks.{MOST_ENTRIES, entries_before, stops_at}
use Rattle.scp_notes.specs.declared.early.EarlyEnd.{EarlyEnd}

-- so many bytes of a source were taken, and this is their sum
pub record HasSummed (left left' : Option (List ℕ)) (count total : ℕ) : Type 0 where
  pub taken : List ℕ
  pub consumed : Consumes left left' taken
  pub size : length taken ≡ count
  pub total_is : total ≡ sum taken

-- at none of the first revolutions the reading ends, and these have so many entries
pub record HasPassed (revolutions : ℕ) (track : List ℕ) (count entries : ℕ) : Type 0 where
  pub entries_are : entries ≡ entries_before track count
  pub few : entries ≤ MOST_ENTRIES
  pub goes : (r : ℕ) → r < count → stops_at revolutions track r ≡ false

-- the track of this number, where it ends early behind so many revolutions
abbrev pub ends_by : (number : ℕ) → (whole : Option ℕ) → List EarlyEnd
ends_by number None = []
ends_by number (Some whole) = record { number = number; whole = whole } ∷ []
