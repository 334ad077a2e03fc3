-- A folder's files as one input, by the places of their bytes; and the numbers of trials.
use Rattle.std.specs.Prelude.{◌≡◌, ◌≢◌, ◌<◌, ℕ, ◌+◌, ◌%◌, All, List, ◌∷◌, ◌++◌, length, slice_get}
use Rattle.std.specs.Prelude.{slice_index, Some}
use Rattle.flux_base.specs.declared.track.TrackId.{TrackId}
use Rattle.sector_images.specs.Places.{tracks}
use Rattle.sector_images.specs.declared.format.Format.{Format}
use Rattle.track_shelf.specs.Files.{File}
use Rattle.track_shelf.specs.Names.{folder_path}

-- this is the first of the files that has the path
pub record IsFirstAt (files : List File) (path : List ℕ) (file : File) : Type 0 where
  pub has : file.path ≡ path
  pub before : List File
  pub behind : List File
  pub lies : before ++ file ∷ behind ≡ files
  pub none_before : All (λ other. other.path ≢ path) before

-- Each track has its file in the folder, and these bytes are those of all these files: the first at
-- the begin, each next one right behind the one before, and nothing behind the last.
pub record AreInFolder (files : List File) (folder : List ℕ) (format : Format)
    (x : List ℕ) : Type 0 where
  pub file : ℕ → File
  pub each : (k : ℕ) (track : TrackId) → slice_get (tracks format) k ≡ Some track
      → IsFirstAt files (folder_path folder track) (file k)
  pub begin : ℕ → ℕ
  pub first : begin 0 ≡ 0
  pub next : (k : ℕ) → k < length (tracks format) → begin (k + 1) ≡ begin k + length (file k).bytes
  pub last : begin (length (tracks format)) ≡ length x
  pub bytes : (k i : ℕ) → k < length (tracks format) → i < length (file k).bytes
      → slice_index x (begin k + i) ≡ slice_index (file k).bytes i

-- the fourth, the fifth and the sixth of a number's last digits are zeros
abbrev pub HasThreeZeros : ℕ → Type 0
HasThreeZeros seed = seed % 1000000 < 1000
