-- The files of tracks, as they are looked for and made one after another.
use Rattle.std.proofs.Common.{◌≡◌, ◌<◌, ◌≤◌, ◌⊎◌, inl, inr, ℕ, zero, suc, ◌+◌, Bool, true, false, cond, List, [], ◌∷◌, ◌++◌, length, slice_get, refl, sym, ap, subst, ◌∙◌, arith, Option, Some, None, Ok, Err}
use Rattle.std.specs.List.{position_from}
use Rattle.std.specs.Option.{is_some, option_map}
use Rattle.std.proofs.lemmas.Iterator.Adapters.{option_map_id}
use Rattle.std.proofs.lemmas.List.FromFn.{map-range_with_len_more}
use Rattle.file_maker.specs.Made.{Made, made_folder, path_in}
use Rattle.file_maker.specs.Makes.{MakesFile, front_of, with_files}
use Rattle.file_maker.specs.lemmas.Making.{more_files}
use Rattle.flux_base.specs.declared.outside.Failed.{Failed}
use Rattle.flux_base.specs.declared.track.TrackId.{TrackId}
use Rattle.flux_engine.specs.Recordings.{track_at}
use Rattle.cell_bits.specs.State.{CellsState, room}
use Rattle.flux_engine.specs.Rings.{HasRoomForRings, IsRing, ring_cells_of, ring_of}
use Rattle.flux_engine.specs.lemmas.Repeated.{early_one}
use Rattle.flux_engine.specs.lemmas.TrackAt.{is_known_at, track_is}
use Rattle.flux_writer.specs.Reading.{HasEarlyOne}
use Rattle.flux_writer.specs.Written.{stream_of}
use Rattle.sector_images.specs.Formats.{zone}
use Rattle.sector_images.specs.Places.{IsTrack, TracksKeepBounds, tracks}
use Rattle.sector_images.specs.declared.format.Format.{Format}
use Rattle.track_shelf.specs.Files.{File, file_of}
use Rattle.track_shelf.specs.Names.{file_name_text, folder_path}
use Rattle.disk_files.specs.Answers.{IsCutAt, first_there}
use Rattle.disk_files.specs.Files.{DiskFolder, disk_file, first_files, info_block}

module _ {X : Type 0} (test : X → Bool) where
  none-passes : (i : ℕ) (xs : List X) → ((k : ℕ) (x : X) → slice_get xs k ≡ Some x → test x ≡ false) → position_from test i xs ≡ None
  none-passes i [] fails = refl
  none-passes i (x ∷ xs) fails =
      ap (λ b. cond b (Some i) (position_from test (i + 1) xs)) (fails zero x refl) ∙ none-passes (i + 1) xs (λ k y at. fails (suc k) y at)

  first-passes : (i n : ℕ) (xs : List X) (t : X) → ((k : ℕ) (x : X) → k < n → slice_get xs k ≡ Some x → test x ≡ false)
      → slice_get xs n ≡ Some t → test t ≡ true → position_from test i xs ≡ Some (i + n)
  first-passes i n [] t fails at passes = absurd (cc)
  first-passes i zero (x ∷ xs) t fails at passes =
      let same : i ≡ i + zero = omega arith in
      let here : x ≡ t = cc in
      ap (λ b. cond b (Some i) (position_from test (i + 1) xs)) (ap test here ∙ passes) ∙ ap Some same
  first-passes i (suc n) (x ∷ xs) t fails at passes =
      let later : position_from test (i + 1) xs ≡ Some (i + 1 + n) = first-passes (i + 1) n xs t (λ k y below got. fails (suc k) y (omega (arith, below)) got) at passes in
      let same : i + 1 + n ≡ i + suc n = omega arith in
      ap (λ b. cond b (Some i) (position_from test (i + 1) xs)) (fails zero x (omega arith) refl) ∙ later ∙ ap Some same

-- the files of the first tracks are not there
abbrev pub NoneOf : List File → (folder : List ℕ) → Format → (count : ℕ) → Type 0
NoneOf files folder format count = (k : ℕ) (track : TrackId) → k < count → slice_get (tracks format) k ≡ Some track → is_some (file_of files folder track) ≡ false

module _ (files : List File) (folder : List ℕ) (format : Format) where
  pub none-more : (number : ℕ) (track : TrackId) → slice_get (tracks format) number ≡ Some track → is_some (file_of files folder track) ≡ false
      → NoneOf files folder format number → NoneOf files folder format (number + 1)
  none-more number track at gone before k other below there = by (cases k number)
    where
      cases : (a b : ℕ) → (a < b) ⊎ (b ≤ a)
      cases zero zero = inr (omega arith)
      cases zero (suc b) = inl (omega arith)
      cases (suc a) zero = inr (omega arith)
      cases (suc a) (suc b) = again (cases a b)
        where
          again : (a < b) ⊎ (b ≤ a) → (suc a < suc b) ⊎ (suc b ≤ suc a)
          again (inl low) = inl (omega (arith, low))
          again (inr high) = inr (omega (arith, high))

      by : (k < number) ⊎ (number ≤ k) → is_some (file_of files folder other) ≡ false
      by (inl low) = before k other low there
      by (inr high) =
          let same : number ≡ k = omega (arith, below, high) in
          let this : Some track ≡ Some other = sym at ∙ ap (slice_get (tracks format)) same ∙ there in
          let both : track ≡ other = cc in
          ap (λ (t : TrackId). is_some (file_of files folder t)) (sym both) ∙ gone

  pub is-first : (number : ℕ) (track : TrackId) → slice_get (tracks format) number ≡ Some track → is_some (file_of files folder track) ≡ true
      → NoneOf files folder format number → first_there files folder format ≡ Some number
  unfolding first_there
  is-first number track at there before =
      let same : 0 + number ≡ number = omega arith in
      first-passes (λ t. is_some (file_of files folder t)) 0 number (tracks format) track (λ k t below got. before k t below got) at there ∙ ap Some same

  pub none-first : (count : ℕ) → length (tracks format) ≤ count → NoneOf files folder format count → first_there files folder format ≡ None
  unfolding first_there
  none-first count all before =
      none-passes (λ t. is_some (file_of files folder t)) 0 (tracks format) (λ k t got. before k t (omega (arith, all, inside (tracks format) k t got)) got)
    where
      inside : {X : Type 0} (xs : List X) (k : ℕ) (x : X) → slice_get xs k ≡ Some x → k < length xs
      inside [] k x got = absurd (cc)
      inside (y ∷ ys) zero x got = omega arith
      inside (y ∷ ys) (suc k) x got = (let rest = inside ys k x got in omega (arith, rest))

-- room for each ring is room for that of a number
pub room_for : (format : Format) (number : ℕ) (track : TrackId) (old now : CellsState) → slice_get (tracks format) number ≡ Some track → IsTrack format track
    → HasRoomForRings format old → room old ≤ room now → ring_cells_of format number ≤ room now
room_for format number track old now at known roomy grown =
    let here : (zone format track.cylinder).ring_cells ≤ room now = omega (arith, roomy track known, grown) in
    subst (λ (t : TrackId). (zone format t.cylinder).ring_cells ≤ room now) (track_is format number track at) here

-- a ring of a track has a one in its first quarter
pub is_early : TracksKeepBounds → (format : Format) (number : ℕ) (track : TrackId) → slice_get (tracks format) number ≡ Some track → IsTrack format track
    → (ring : List Bool) → IsRing (ring_cells_of format number) ring → HasEarlyOne ring
is_early keep format number track at known ring is =
    let bounds = keep format (track_at format number) (is_known_at format number track at known) in
    early_one ring is.spaced (omega (arith, is.cells_are, bounds.shortest_ring))

-- a name in a folder is the path of the track's file
pub path-is : (folder name : List ℕ) (track : TrackId) → name ≡ file_name_text track → path_in folder name ≡ folder_path folder track
unfolding folder_path
path-is folder name track is = ap (path_in folder) is

module _ (disk : DiskFolder) (image : List ℕ) where
  -- what is written for the track of a number is its file
  pub file-is : (number cell : ℕ) (track : TrackId) (name info : List ℕ) (ring : List Bool) → slice_get (tracks disk.format) number ≡ Some track
      → name ≡ file_name_text track → info ≡ info_block disk.version → ring ≡ ring_of disk.format image number → cell ≡ (zone disk.format track.cylinder).nominal
      → record { path = path_in disk.folder name; bytes = info ++ stream_of ring cell } ≡ disk_file disk image number
  file-is number cell track name info ring at name_is info_is ring_is cell_is =
      let same = track_is disk.format number track at in
      ap (λ (p : List ℕ). of p info ring cell) (path-is disk.folder name track name_is ∙ ap (folder_path disk.folder) same)
      ∙ ap (λ (i : List ℕ). of path i ring cell) info_is
      ∙ ap (λ (r : List Bool). of path (info_block disk.version) r cell) ring_is
      ∙ ap (of path (info_block disk.version) (ring_of disk.format image number)) (cell_is ∙ ap (λ (t : TrackId). (zone disk.format t.cylinder).nominal) same)
    where
      path : List ℕ
      path = folder_path disk.folder (track_at disk.format number)

      of : List ℕ → List ℕ → List Bool → ℕ → File
      of p i r c = record { path = p; bytes = i ++ stream_of r c }

  -- one file more was made
  pub files-next : (made before now : Option Made) (number : ℕ) (file : File) → before ≡ option_map (with_files (first_files disk image number)) made
      → file ≡ disk_file disk image number → now ≡ option_map (with_files (file ∷ [])) before → now ≡ option_map (with_files (first_files disk image (number + 1))) made
  files-next made before now number file is file_is grew =
      grew ∙ ap (option_map (with_files (file ∷ []))) is ∙ more_files (first_files disk image number) (file ∷ []) made
      ∙ ap (λ (files : List File). option_map (with_files files) made)
      (ap (λ (f : File). first_files disk image number ++ f ∷ []) file_is ∙ sym (map-range_with_len_more (disk_file disk image) 0 number number (omega arith)))

  -- the next one failed
  pub files-cut : (made before now : Option Made) (number : ℕ) (file : File) (failed : Failed) → before ≡ option_map (with_files (first_files disk image number)) made
      → file ≡ disk_file disk image number → MakesFile file before now (Err failed)
      → (files : List File) × IsCutAt disk image number files × (now ≡ option_map (with_files files) made)
  files-cut made before now number file failed is file_is (inl same) = (first_files disk image number, inl refl, same ∙ is)
  files-cut made before now number file failed is file_is (inr cut) =
      let front = front_of cut.0 file in
      let all = first_files disk image number ++ front ∷ [] in (
        all,
        inr (
          cut.0,
          subst (λ (f : File). cut.0 < length f.bytes) file_is cut.1,
          ap (λ (f : File). first_files disk image number ++ front_of cut.0 f ∷ []) file_is,
        ),
        cut.2 ∙ ap (option_map (with_files (front ∷ []))) is ∙ more_files (first_files disk image number) (front ∷ []) made,
      )

-- their folder was not made
pub no-folder : (folder : List ℕ) (made now : Option Made) (failed : Failed) → now ≡ option_map (made_folder folder (Err failed)) made → now ≡ made
no-folder folder made now failed is = is ∙ option_map_id made
