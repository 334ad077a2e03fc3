-- Files that were made, and one that was not made whole.
use Rattle.std.specs.Prelude.{◌≡◌, ◌<◌, ◌⊎◌, ℕ, List, [], ◌∷◌, ◌++◌, length, option_map, take}
use Rattle.std.specs.Prelude.{Option, Result, Ok, Err}
use Rattle.flux_base.specs.declared.outside.Failed.{Failed}
use Rattle.track_shelf.specs.Files.{File}
use Rattle.file_maker.specs.Made.{Made, with_folder}

-- files were made behind those that were there
abbrev pub with_files : List File → Made → Made
with_files files made = record made { files = made.files ++ files }

-- files were made behind those that were there, and before them their
-- folder, where it was not there
abbrev pub with_folder_of : (folder : List ℕ) → List File → Made → Made
with_folder_of folder files made = record {
  folders = with_folder folder made.folders;
  files = made.files ++ files;
  opened = made.opened;
}

-- so they were made in this folder
abbrev pub MakesIn : (folder : List ℕ) → List File → (made made' : Option Made) → Type 0
MakesIn folder files made made' = made' ≡ option_map (with_folder_of folder files) made

-- the first bytes of a file
abbrev pub front_of : ℕ → File → File
front_of n file = record file { bytes = take n file.bytes }

-- a file was made; or it failed, and is not there, or a front of it is that is shorter than it
abbrev pub MakesFile : File → (made made' : Option Made) → Result (Unit {0}) Failed → Type 0
MakesFile file made made' (Ok _) = made' ≡ option_map (with_files (file ∷ [])) made
MakesFile file made made' (Err _) =
    (made' ≡ made)
    ⊎ ((n : ℕ) × (n < length file.bytes)
    × (made' ≡ option_map (with_files (front_of n file ∷ [])) made))
