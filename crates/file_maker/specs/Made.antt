-- What a maker of files tells, and what its calls do to that.
use Rattle.std.specs.Prelude.{◌≡◌, ◌≤◌, if◌then◌else◌, ℕ, Bool, List, [], ◌∷◌, ◌++◌, codes, drop}
use Rattle.std.specs.Prelude.{map, take, Option, Some, None, Result, Ok, Err}
use Rattle.std.specs.List.{list_any}
use Rattle.std.specs.Str.{bytes_eq}
use Rattle.flux_base.specs.Counts.{FaultCounts}
use Rattle.flux_base.specs.Outside.{Rose}
use Rattle.flux_base.specs.declared.outside.Failed.{Failed}
use Rattle.track_shelf.specs.Files.{File, file_at, none_yet, taken_over}

-- What lies there: folders, by their paths; files that are closed, those that were made behind
-- all others, in the order in which they were closed; and, by their paths, the files that are
-- open, the last one made first.
pub record Made : Type 0 where
  pub folders : List (List ℕ)
  pub files : List File
  pub opened : List (List ℕ)

-- the path of a name in a folder
abbrev pub path_in : (folder name : List ℕ) → List ℕ
path_in folder name = folder ++ codes "/" ++ name

-- the folder is among these
abbrev pub has_folder : (folder : List ℕ) → List (List ℕ) → Bool
has_folder folder folders = list_any (bytes_eq folder) folders

-- a folder is made where it is not there
unfoldable pub with_folder : (folder : List ℕ) → List (List ℕ) → List (List ℕ)
with_folder folder folders = if has_folder folder folders then folders else folders ++ folder ∷ []

-- the same, or it fails
abbrev pub made_folder : (folder : List ℕ) → Result (Unit {0}) Failed → Made → Made
made_folder folder (Ok _) made = record made { folders = with_folder folder made.folders }
made_folder folder (Err _) made = made

-- the file of a path is made, and is open; or it fails
abbrev pub made_open : {F : Type 0} → (path : List ℕ) → Result F Failed → Made → Made
made_open path (Ok file) made = record made { opened = path ∷ made.opened }
made_open path (Err _) made = made

-- a file of these bytes
abbrev pub file_with : (bytes path : List ℕ) → File
file_with bytes path = record { path = path; bytes = bytes }

-- the last one that was made is closed, and has these bytes
abbrev pub made_close : (bytes : List ℕ) → Made → Made
made_close bytes made = record made {
  files = made.files ++ map (file_with bytes) (take 1 made.opened);
  opened = drop 1 made.opened;
}

-- A file that is handed out is new, where it is told what lies there: no file of its path did,
-- and no byte was written to it.
abbrev pub IsNew : {F : Type 0} → (written : F → Option (List ℕ)) → Option Made → (path : List ℕ)
    → Result F Failed → Type 0
IsNew written (Some made) path (Ok file) =
    (file_at made.files path ≡ None) × (written file ≡ Some [])
IsNew written _ path _ = Unit {0}

-- none failed yet of the calls on a file, whose maker has counted these
abbrev pub no_faults : (maker : FaultCounts) → FaultCounts
no_faults maker = record { faults = 0; failed = none_yet maker.failed }

-- how often a file failed is counted with its maker's own faults
pub record TakesOver (file before after : FaultCounts) : Type 0 where
  pub later : before.faults ≤ after.faults
  pub cause : Rose 0 file.faults → Rose before.faults after.faults
  pub counted : after.failed ≡ taken_over file.failed before.failed
