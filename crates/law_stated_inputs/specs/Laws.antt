-- Folders, paths and trials are the stated ones.
use Rattle.std.specs.Prelude.{◌≡◌, ◌<◌, ◌↔◌, ℕ, ◌+◌, ◌*◌, List, ◌++◌, None}
use Rattle.flux_base.specs.declared.track.TrackId.{TrackId}
use Rattle.flux_trial.specs.Laws.{HasNoHole}
use Rattle.law_stated_inputs.specs.Folders.{AreInFolder, HasThreeZeros}
use Rattle.law_stated_inputs.specs.Paths.{IsNameOfFile, IsNameOfScp, ending_of, path_in_folder}
use Rattle.sector_images.specs.declared.format.Format.{Format}
use Rattle.track_shelf.specs.Files.{File, first_missing, joined}
use Rattle.track_shelf.specs.Names.{IsNamed, folder_path, path_text}

-- none of the wanted files is missing, and joined they are these bytes, exactly
-- where they are so in the folder
abbrev pub FoldersAreStated : Type 0
FoldersAreStated = (files : List File) (folder : List ℕ) (format : Format) (x : List ℕ)
    → AreInFolder files folder format x
    ↔ ((first_missing files folder format ≡ None) × (joined files folder format ≡ x))

-- the paths of tracks of two digits and one: in a folder; in a dump that is named by one of its
-- files; in an SCP file; and in any other, which is a folder
pub record PathsAreStated : Type 0 where
  pub in_folder : (folder : List ℕ) (track : TrackId) → IsNamed track
      → folder_path folder track ≡ path_in_folder folder track.cylinder track.head
  pub by_file : (name front : List ℕ) (track : TrackId) → IsNamed track → IsNameOfFile name front
      → path_text name track ≡ front ++ ending_of track.cylinder track.head
  pub by_scp : (name : List ℕ) (track : TrackId) → IsNameOfScp name → path_text name track ≡ name
  pub by_folder : (name : List ℕ) (track : TrackId) → IsNamed track
      → ((front : List ℕ) → IsNameOfFile name front → ⊥) → (IsNameOfScp name → ⊥)
      → path_text name track ≡ path_in_folder name track.cylinder track.head

-- a trial has no hole exactly where its number has three zeros
abbrev pub SeedsAreStated : Type 0
SeedsAreStated = (seed : ℕ) → HasThreeZeros seed ↔ HasNoHole seed

-- so it is with any number of millions, and fewer than a thousand
abbrev pub SeedsWithoutHoles : Type 0
SeedsWithoutHoles = (millions few : ℕ) → few < 1000 → HasNoHole (1000000 * millions + few)
