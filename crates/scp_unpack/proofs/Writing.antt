-- A track that is written.
use Rattle.std.proofs.Common.{◌≡◌, ◌<◌, ◌≤◌, ◌+◌, ◌-◌, ◌^◌, ℕ, List, [], ◌∷◌, All, length, false, inl, inr, ap, subst, ◌∙◌, arith}
use Rattle.std.proofs.lemmas.Bool.{cases_lt}
use Rattle.std.proofs.lemmas.List.Elements.{All-weaker}
use Rattle.std.specs.Option.{is_some}
use Rattle.file_maker.specs.Made.{path_in}
use Rattle.flux_base.specs.declared.track.TrackId.{TrackId}
use Rattle.index_turns.specs.Track.{TrackState}
use Rattle.track_rings.specs.Rings.{last_in}
use Rattle.track_shelf.specs.Files.{File}
use Rattle.track_shelf.specs.Files.{file_of as track_file}
use Rattle.track_shelf.specs.Names.{file_name_text, folder_path}
use Rattle.scp_unpack.specs.Files.{file_with}
use Rattle.scp_unpack.specs.Tracks.{track_of}
use Rattle.scp_unpack.specs.inside.Came.{CanBeWritten}

last_below : (bound : ℕ) (xs : List ℕ) → 0 < bound → All (λ x. x < bound) xs → last_in xs < bound
last_below bound [] some all = some
last_below bound (x ∷ xs) some all = all (length (x ∷ xs) - 1) 0 (omega arith)

-- the last index time is near enough to the last transition
pub near : (flux : TrackState) → CanBeWritten flux → last_in flux.indexes < last_in flux.times + 2 ^ 32
near flux can = (let below = last_below (2 ^ 32) flux.indexes (omega arith) can.near in omega (arith, below))

pub early : (flux : TrackState) → CanBeWritten flux → All (λ time. time ≤ 2 ^ 39) flux.times
early flux can = All-weaker (λ time. time < 2 ^ 32) (λ time. time ≤ 2 ^ 39) (λ time below. omega (arith, below)) flux.times can.early

-- a name in the folder is the path of the track's file
pub path-of : (folder name : List ℕ) (track : TrackId) (number : ℕ) → name ≡ file_name_text track → track ≡ track_of number
    → path_in folder name ≡ folder_path folder (track_of number)
unfolding folder_path
path-of folder name track number is at = ap (path_in folder) is ∙ ap (folder_path folder) at

pub file-is : (folder name bytes : List ℕ) (track : TrackId) (number : ℕ) → name ≡ file_name_text track → track ≡ track_of number
    → record { path = path_in folder name; bytes = bytes } ≡ file_with folder number bytes
file-is folder name bytes track number is at = ap (λ (p : List ℕ). file p) (path-of folder name track number is at)
  where
    file : (path : List ℕ) → File
    file p = record { path = p; bytes = bytes }

-- no file of one more is there
pub more-missing : (files : List File) (folder : List ℕ) (n : ℕ) → is_some (track_file files folder (track_of n)) ≡ false
    → ((k : ℕ) → 0 ≤ k → k < 0 + n → is_some (track_file files folder (track_of k)) ≡ false)
    → (k : ℕ) → 0 ≤ k → k < 0 + (n + 1) → is_some (track_file files folder (track_of k)) ≡ false
more-missing files folder n gone before k above below = elim (cases_lt k n) [
  | inl low ↦ before k above (omega (arith, low))
  | inr high ↦
      let here : n ≡ k = omega (arith, high, below) in
      subst (λ (j : ℕ). is_some (track_file files folder (track_of j)) ≡ false) here gone
]
