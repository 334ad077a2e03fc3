-- Which files are there, and where.
use Rattle.std.proofs.Common.{◌≡◌, ◌<◌, ◌≤◌, ◌+◌, ◌⊎◌, ℕ, zero, suc, Bool, true, false, inl, inr, List, [], ◌∷◌, ◌++◌, take, map, Option, Some, None, length, arith, refl, sym, ◌∙◌, ap, subst, cond}
use Rattle.std.specs.List.{find, position_from, slice_get}
use Rattle.std.specs.Option.{is_none, is_some}
use Rattle.std.proofs.lemmas.Bool.{cases_lt}
use Rattle.std.proofs.lemmas.Option.{get_or_from_slice_get, slice_get_within}
use Rattle.std.proofs.lemmas.List.{map-append, take_more}
use Rattle.flux_base.specs.declared.track.TrackId.{TrackId}
use Rattle.sector_images.specs.Places.{tracks}
use Rattle.sector_images.specs.declared.format.Format.{Format}
use Rattle.track_shelf.specs.Files.{File, bytes_in, file_at, file_of, first_missing, has_path, track_bytes}
use Rattle.track_shelf.specs.Memory.{bytes_at, pieces_of}
use Rattle.track_shelf.specs.Names.{folder_path}

some_none : {X : Type 0} (x : X) → Some x ≡ None → ⊥
some_none x same = cc

none_some : {X : Type 0} (x : X) → None ≡ Some x → ⊥
none_some x same = cc

pub some_same : {X : Type 0} (x y : X) → Some x ≡ Some y → x ≡ y
some_same x y same = cc

module _ {X : Type 0} (p : X → Bool) where
  -- no item passes
  none-passes : (i : ℕ) (xs : List X) → ((k : ℕ) (x : X) → slice_get xs k ≡ Some x → p x ≡ false) → position_from p i xs ≡ None
  none-passes i [] fails = refl
  none-passes i (x ∷ xs) fails =
      ap (λ b. cond b (Some i) (position_from p (i + 1) xs)) (fails zero x refl) ∙ none-passes (i + 1) xs (λ k y at. fails (suc k) y at)

  -- the item at n is the first that passes
  first-passes : (i n : ℕ) (xs : List X) (t : X) → ((k : ℕ) (x : X) → k < n → slice_get xs k ≡ Some x → p x ≡ false)
      → slice_get xs n ≡ Some t → p t ≡ true → position_from p i xs ≡ Some (i + n)
  first-passes i n [] t fails at passes = absurd (none_some t at)
  first-passes i zero (x ∷ xs) t fails at passes =
      let same : i ≡ i + zero = omega arith in
      ap (λ b. cond b (Some i) (position_from p (i + 1) xs)) (ap p (some_same x t at) ∙ passes) ∙ ap Some same
  first-passes i (suc n) (x ∷ xs) t fails at passes =
      let later : position_from p (i + 1) xs ≡ Some (i + 1 + n) = first-passes (i + 1) n xs t (λ k y below got. fails (suc k) y (omega (arith, below)) got) at passes in
      let same : i + 1 + n ≡ i + suc n = omega arith in
      ap (λ b. cond b (Some i) (position_from p (i + 1) xs)) (fails zero x (omega arith) refl) ∙ later ∙ ap Some same

  -- where no place is found, no item is
  find-none : (i : ℕ) (xs : List X) → position_from p i xs ≡ None → find p xs ≡ None
  find-none i [] none = refl
  find-none i (x ∷ xs) none = by (find-none (i + 1) xs) (p x) none
    where
      by : (position_from p (i + 1) xs ≡ None → find p xs ≡ None) → (b : Bool) → cond b (Some i) (position_from p (i + 1) xs) ≡ None
          → cond b (Some x) (find p xs) ≡ None
      by later true same = absurd (some_none i same)
      by later false same = later same

  -- an item that is found
  record Found (i : ℕ) (xs : List X) (n : ℕ) : Type 0 where
    item : X
    found : find p xs ≡ Some item
    passes : p item ≡ true
    after : ℕ
    place : n ≡ i + after
    stands : slice_get xs after ≡ Some item

  find-some : (i : ℕ) (xs : List X) (n : ℕ) → position_from p i xs ≡ Some n → Found i xs n
  find-some i [] n at = absurd (none_some n at)
  find-some i (x ∷ xs) n at = by (find-some (i + 1) xs n) (p x) refl at
    where
      by : (position_from p (i + 1) xs ≡ Some n → Found (i + 1) xs n) → (b : Bool) → p x ≡ b → cond b (Some i) (position_from p (i + 1) xs) ≡ Some n → Found i (x ∷ xs) n
      by later true is same =
          let here : i ≡ n = some_same i n same in
          record { item = x; found = ap (λ b. cond b (Some x) (find p xs)) is; passes = is; after = zero; place = omega (arith, here); stands = refl }
      by later false is same =
          let f = later same in
          record { item = f.item; found = ap (λ b. cond b (Some x) (find p xs)) is ∙ f.found; passes = f.passes; after = suc f.after; place = omega (arith, f.place); stands = f.stands }

-- the files of the first tracks are there
abbrev pub AllThere : List File → List ℕ → List TrackId → ℕ → Type 0
AllThere files folder tracks count = (k : ℕ) (track : TrackId) → k < count → slice_get tracks k ≡ Some track → is_none (file_of files folder track) ≡ false

-- the file that stands where a path was found
module _ (files : List File) (path : List ℕ) (place : ℕ) (found : position_from (has_path path) 0 files ≡ Some place) where
  found-bytes : bytes_at files place ≡ bytes_in (file_at files path)
  found-bytes =
      let f = find-some (has_path path) 0 files place found in
      let here : place ≡ f.after = omega (arith, f.place) in
      ap (bytes_at files) here ∙ ap bytes_in (f.stands ∙ sym f.found)

  pub found-pieces : map (bytes_at files) (place ∷ []) ≡ pieces_of (file_at files path)
  found-pieces =
      let f = find-some (has_path path) 0 files place found in
      let here : place ≡ f.after = omega (arith, f.place) in
      ap (λ (n : ℕ). bytes_at files n ∷ []) here ∙ ap (λ (o : Option File). bytes_in o ∷ []) f.stands ∙ sym (ap pieces_of f.found)

-- where none was found there is none
pub none-pieces : (files : List File) (path : List ℕ) → position_from (has_path path) 0 files ≡ None → [] ≡ pieces_of (file_at files path)
none-pieces files path none = sym (ap pieces_of (find-none (has_path path) 0 files none))

taken-next : {X : Type 0} (xs : List X) (n : ℕ) (x : X) → slice_get xs n ≡ Some x → take (n + 1) xs ≡ take n xs ++ x ∷ []
taken-next {X = X} xs n x at =
    take_more xs n x (slice_get_within xs n x at) ∙ ap (λ (y : X). take n xs ++ y ∷ []) (get_or_from_slice_get xs n x x at)

module _ (files : List File) (folder : List ℕ) where
  -- so is that of the next one
  pub AllThere-more : (ids : List TrackId) (count : ℕ) (track : TrackId) (place : ℕ) → AllThere files folder ids count → slice_get ids count ≡ Some track
      → position_from (has_path (folder_path folder track)) 0 files ≡ Some place → AllThere files folder ids (count + 1)
  AllThere-more ids count track place there at found k id below got = by (cases_lt k count)
    where
      here : is_none (file_of files folder track) ≡ false
      here = ap is_none (find-some (has_path (folder_path folder track)) 0 files place found).found

      by : (k < count) ⊎ (count ≤ k) → is_none (file_of files folder id) ≡ false
      by (inl less) = there k id less got
      by (inr more) =
          let same : k ≡ count = omega (arith, below, more) in
          let one : track ≡ id = some_same track id (sym at ∙ ap (slice_get ids) (sym same) ∙ got) in
          subst (λ t. is_none (file_of files folder t) ≡ false) one here

  -- and its place is that of its bytes
  pub places-more : (ids : List TrackId) (count : ℕ) (track : TrackId) (places : List ℕ) (place : ℕ) → slice_get ids count ≡ Some track
      → position_from (has_path (folder_path folder track)) 0 files ≡ Some place
      → map (bytes_at files) places ≡ map (track_bytes files folder) (take count ids)
      → map (bytes_at files) (places ++ place ∷ []) ≡ map (track_bytes files folder) (take (count + 1) ids)
  places-more ids count track places place at found before =
      let here : bytes_at files place ≡ track_bytes files folder track = found-bytes files (folder_path folder track) place found in
      let next : take (count + 1) ids ≡ take count ids ++ track ∷ [] = taken-next ids count track at in
      map-append (bytes_at files) places (place ∷ [])
      ∙ ap (λ (ps : List (List ℕ)). ps ++ bytes_at files place ∷ []) before
      ∙ ap (λ (b : List ℕ). map (track_bytes files folder) (take count ids) ++ b ∷ []) here
      ∙ sym (map-append (track_bytes files folder) (take count ids) (track ∷ []))
      ∙ sym (ap (map (track_bytes files folder)) next)

  module _ (format : Format) where
    -- the first file that is missing
    pub first-missing : (number : ℕ) (track : TrackId) → AllThere files folder (tracks format) number → slice_get (tracks format) number ≡ Some track
        → position_from (has_path (folder_path folder track)) 0 files ≡ None → first_missing files folder format ≡ Some number
    unfolding first_missing
    first-missing number track there at none =
        let same : 0 + number ≡ number = omega arith in
        first-passes (λ id. is_none (file_of files folder id)) 0 number (tracks format) track there at (ap is_none (find-none (has_path (folder_path folder track)) 0 files none))
        ∙ ap Some same

    -- none is missing
    pub none-missing : AllThere files folder (tracks format) (length (tracks format)) → first_missing files folder format ≡ None
    unfolding first_missing
    none-missing there =
        none-passes (λ id. is_none (file_of files folder id)) 0 (tracks format) (λ k id at. there k id (slice_get_within (tracks format) k id at) at)

-- a place is found where an item is
pub is_some-place : {X : Type 0} (p : X → Bool) (i : ℕ) (xs : List X) → is_some (position_from p i xs) ≡ is_some (find p xs)
is_some-place p i [] = refl
is_some-place p i (x ∷ xs) = by (p x) (is_some-place p (i + 1) xs)
  where
    by : (b : Bool) → is_some (position_from p (i + 1) xs) ≡ is_some (find p xs)
        → is_some (cond b (Some i) (position_from p (i + 1) xs)) ≡ is_some (cond b (Some x) (find p xs))
    by true later = refl
    by false later = later
