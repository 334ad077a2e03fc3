-- One stream, of which a file is made.
use Rattle.std.proofs.Common.{◌≡◌, ◌≤◌, ◌<◌, inl, inr, ◌+◌, ℕ, false, zero, suc, List, [], ◌∷◌, refl, ap, subst, sym, ◌∙◌, arith, Option, Some, None, Result, Err, Ok}
use Rattle.std.specs.Option.{is_some, option_map}
use Rattle.std.proofs.lemmas.Bool.{cases_lt}
use Rattle.file_maker.specs.Made.{Made, made_folder, path_in}
use Rattle.file_maker.specs.Makes.{MakesFile, front_of, with_files}
use Rattle.file_maker.specs.lemmas.Making.{made_in, no_files}
use Rattle.flux_base.specs.declared.outside.Failed.{Failed}
use Rattle.flux_base.specs.declared.track.TrackId.{TrackId}
use Rattle.track_shelf.specs.Files.{File, file_of}
use Rattle.track_shelf.specs.Names.{file_name_text, folder_path}
use Rattle.std.proofs.lemmas.Iterator.Adapters.{option_map_id}
use Rattle.stream_files.specs.Answers.{IsFrontOf}
use Rattle.stream_files.specs.Streams.{SplitFolder, stream_track}
use Rattle.stream_files.specs.declared.heads.Heads.{Heads}
use Rattle.stream_files.specs.inside.Progress.{MadeNext, MakesBefore, file_of_bytes}

-- a name in the folder is the path of the stream's file
pub path-of : (folder name : List ℕ) (track : TrackId) (heads : Heads) (k : ℕ) → name ≡ file_name_text track → track ≡ stream_track heads k
    → path_in folder name ≡ folder_path folder (stream_track heads k)
unfolding folder_path
path-of folder name track heads k is at = ap (path_in folder) is ∙ ap (folder_path folder) at

pub file-is : (split : SplitFolder) (k : ℕ) (name bytes other : List ℕ) (track : TrackId) → name ≡ file_name_text track → track ≡ stream_track split.heads k → bytes ≡ other
    → record { path = path_in split.folder name; bytes = bytes } ≡ file_of_bytes split k other
file-is split k name bytes other track is at same =
    ap (λ (p : List ℕ). file p bytes) (path-of split.folder name track split.heads k is at)
    ∙ ap (file (folder_path split.folder (stream_track split.heads k))) same
  where
    file : (path bytes : List ℕ) → File
    file p b = record { path = p; bytes = b }

-- no file of one more is there
pub more-missing : (files : List File) (folder : List ℕ) (heads : Heads) (n : ℕ) → is_some (file_of files folder (stream_track heads n)) ≡ false
    → ((k : ℕ) → 0 ≤ k → k < 0 + n → is_some (file_of files folder (stream_track heads k)) ≡ false)
    → (k : ℕ) → 0 ≤ k → k < 0 + (n + 1) → is_some (file_of files folder (stream_track heads k)) ≡ false
more-missing files folder heads n gone before k above below = elim (cases_lt k n) [
  | inl low ↦ before k above (omega (arith, low))
  | inr high ↦
      let here : n ≡ k = omega (arith, high, below) in
      subst (λ (j : ℕ). is_some (file_of files folder (stream_track heads j)) ≡ false) here gone
]

-- the folder is made before the first file
pub before-first : (made made' : Option Made) (k : ℕ) (folder : List ℕ) → k ≡ 0 → (answer : Result (Unit {0}) Failed) → made' ≡ option_map (made_folder folder answer) made
    → MakesBefore k folder answer made made'
before-first made made' k folder first answer is = subst (λ (j : ℕ). MakesBefore j folder answer made made') (sym first) is

pub before-later : (made : Option Made) (k : ℕ) (folder : List ℕ) → (k ≡ 0 → ⊥) → MakesBefore k folder (Ok (record {})) made made
before-later made zero folder later = absurd (later refl)
before-later made (suc k) folder later = refl

module _ (split : SplitFolder) (made mid made' : Option Made) where
  -- files behind those of the streams before
  pub made-behind : (k : ℕ) (u : Unit {0}) (files : List File) → MakesBefore k split.folder (Ok u) made mid → made' ≡ option_map (with_files files) mid
      → MadeNext split k files made made'
  made-behind zero u files first grew = made_in split.folder files made mid made' u first grew
  made-behind (suc k) u files first grew = grew ∙ ap (option_map (with_files files)) first

  -- the folder was not made
  pub not-made : (k : ℕ) (failed : Failed) → MakesBefore k split.folder (Err failed) made mid → (k ≡ 0) × (mid ≡ made)
  not-made zero failed is = (refl, is ∙ option_map_id made)
  not-made (suc k) failed is = absurd is

  -- the file failed
  pub cut-made : (file other : File) (failed : Failed) → file ≡ other → MakesFile file mid made' (Err failed)
      → (files : List File) × IsFrontOf other files × (made' ≡ option_map (with_files files) mid)
  cut-made file other failed same (inl none) = ([], inl refl, none ∙ no_files mid)
  cut-made file other failed same (inr cut) = (
    front_of cut.0 file ∷ [],
    subst (λ (f : File). IsFrontOf f (front_of cut.0 file ∷ [])) same (inr (cut.0, cut.1, refl)),
    cut.2,
  )

  pub whole-made : (file other : File) → file ≡ other → made' ≡ option_map (with_files (file ∷ [])) mid → made' ≡ option_map (with_files (other ∷ [])) mid
  whole-made file other same grew = grew ∙ ap (λ (f : File). option_map (with_files (f ∷ [])) mid) same
