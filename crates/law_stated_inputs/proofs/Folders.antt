-- A folder's files are joined exactly where they lie one behind the other.
use Rattle.std.specs.Prelude.{◌≡◌, ◌≢◌, ◌<◌, ◌≤◌, ℕ, zero, suc, ◌+◌, All, Bool, true, false, List, [], ◌∷◌, ◌++◌, cond, drop, flat_map, get_or, is_none, length, refl, slice_get, take, Option, Some, None}
use Rattle.std.specs.Bool.{Decides}
use Rattle.std.specs.List.{position_from}
use Rattle.std.proofs.Common.{arith, ap, sym, subst, ◌∙◌, append-nil, length-append}
use Rattle.std.proofs.lemmas.Grind.{same_number_lists}
use Rattle.std.proofs.lemmas.List.{drop-drop, get_or-drop, get_or-take, length-drop, length-take-le, take-append-drop}
use Rattle.std.proofs.lemmas.Option.{get_or_from_slice_get}
use Rattle.std.proofs.Math.Seq.{drop-length, take-length}
use Rattle.std.proofs.lemmas.List.Concat.{get_or-flat_map}
use Rattle.std.proofs.lemmas.List.Elements.{All-cons, All-head, All-nil, All-tail}
use Rattle.std.proofs.lemmas.Slice.Eq.{bytes_eq-Decides}
use Rattle.flux_base.specs.declared.track.TrackId.{TrackId}
use Rattle.law_stated_inputs.specs.Folders.{AreInFolder, IsFirstAt}
use Rattle.law_stated_inputs.specs.Laws.{FoldersAreStated}
use Rattle.sector_images.specs.Places.{tracks}
use Rattle.sector_images.specs.declared.format.Format.{Format}
use Rattle.track_shelf.specs.Files.{File, bytes_in, file_at, file_of, first_missing, has_path, joined, track_bytes}
use Rattle.track_shelf.specs.Names.{folder_path}

same_some : (a b : File) → Some a ≡ Some b → a ≡ b
same_some a b is = cc

not_none : (a : File) → None ≡ Some a → ⊥
not_none a is = cc

same_track : (a b : TrackId) → Some a ≡ Some b → a ≡ b
same_track a b is = cc

no_track : (a : TrackId) → None ≡ Some a → ⊥
no_track a is = cc

no_number : (n : ℕ) → Some n ≡ None → ⊥
no_number n is = cc

not_both : (b : Bool) → b ≡ true → b ≡ false → ⊥
not_both b one other = cc

is_false : {A : Type 0} (b : Bool) → Decides b A → (A → ⊥) → b ≡ false
is_false true decides other = absurd (other (decides.0 refl))
is_false false decides other = refl

-- the first file of a path
module _ (path : List ℕ) where
  abbrev Other : File → Type 0
  Other file = file.path ≢ path

  abbrev by_path : (file : File) → Decides (has_path path file) (file.path ≡ path)
  by_path file = bytes_eq-Decides file.path path

  first_by : (one file : File) (files : List File) (here : Bool) → has_path path one ≡ here → cond here (Some one) (file_at files path) ≡ Some file
      → (file_at files path ≡ Some file → IsFirstAt files path file) → IsFirstAt (one ∷ files) path file
  first_by one file files true here is later =
      let same = same_some one file is in
      record {
        has = subst (λ (f : File). f.path ≡ path) same ((by_path one).0 here);
        before = [];
        behind = files;
        lies = ap (λ (f : File). f ∷ files) (sym same);
        none_before = All-nil Other;
      }
  first_by one file files false here is later =
      let rest = later is in
      record {
        has = rest.has;
        before = one ∷ rest.before;
        behind = rest.behind;
        lies = ap (λ (fs : List File). one ∷ fs) rest.lies;
        none_before = All-cons Other one rest.before (λ same. not_both (has_path path one) ((by_path one).1 same) here) rest.none_before;
      }

  first : (files : List File) (file : File) → file_at files path ≡ Some file → IsFirstAt files path file
  first [] file is = absurd (not_none file is)
  first (one ∷ files) file is = first_by one file files (has_path path one) refl is (first files file)

  at : (before : List File) (file : File) (behind : List File) → file.path ≡ path → All Other before → file_at (before ++ file ∷ behind) path ≡ Some file
  at [] file behind is none = ap (λ (b : Bool). cond b (Some file) (file_at behind path)) ((by_path file).1 is)
  at (one ∷ before) file behind is none =
      ap (λ (b : Bool). cond b (Some one) (file_at (before ++ file ∷ behind) path)) (is_false (has_path path one) (by_path one) (All-head Other one before none))
      ∙ at before file behind is (All-tail Other one before none)

  found : (files : List File) (file : File) → IsFirstAt files path file → file_at files path ≡ Some file
  found files file is = subst (λ (fs : List File). file_at fs path ≡ Some file) is.lies (at is.before file is.behind is.has is.none_before)

-- what stands at a place, and then the rest
at_place : (x s : List ℕ) (b : ℕ) → b + length s ≤ length x → ((i : ℕ) → i < length s → get_or x (b + i) 0 ≡ get_or s i 0)
    → drop b x ≡ s ++ drop (b + length s) x
at_place x s b within same =
    let n : ℕ = length s in
    let size = length-take-le n (drop b x) (omega (arith, within, length-drop b x)) in
    let front : take n (drop b x) ≡ s =
    same_number_lists (take n (drop b x)) s size
    (λ i below.
    let low : i < n = omega (arith, below, size) in
    get_or-take n (drop b x) i 0 low ∙ get_or-drop b x i 0 ∙ same i low) in
    sym (take-append-drop n (drop b x)) ∙ ap (λ (front : List ℕ). front ++ drop n (drop b x)) front ∙ ap (λ (rest : List ℕ). s ++ rest) (drop-drop n b x)

module _ (files : List File) (folder : List ℕ) where
  abbrev wanted : TrackId → Option File
  wanted track = file_of files folder track

  abbrev lacks : TrackId → Bool
  lacks track = is_none (wanted track)

  -- no track of a list lacks its file
  have_by : (one : TrackId) (ts : List TrackId) (start : ℕ) (gone : Bool) → lacks one ≡ gone → cond gone (Some start) (position_from lacks (start + 1) ts) ≡ None
      → (lacks one ≡ false) × (position_from lacks (start + 1) ts ≡ None)
  have_by one ts start true gone is = absurd (no_number start is)
  have_by one ts start false gone is = (gone, is)

  some_file : (file : Option File) → is_none file ≡ false → (f : File) × (file ≡ Some f)
  some_file None is = absurd (never is)
    where
      never : true ≡ false → ⊥
      never is = cc
  some_file (Some file) is = (file, refl)

  have : (ts : List TrackId) (start : ℕ) → position_from lacks start ts ≡ None → (k : ℕ) (track : TrackId) → slice_get ts k ≡ Some track
      → (file : File) × (wanted track ≡ Some file)
  have [] start is k track there = absurd (no_track track there)
  have (one ∷ ts) start is zero track there =
      let same = same_track one track there in
      subst (λ (t : TrackId). (file : File) × (wanted t ≡ Some file)) same (some_file (wanted one) (have_by one ts start (lacks one) refl is).0)
  have (one ∷ ts) start is (suc k) track there = have ts (start + 1) (have_by one ts start (lacks one) refl is).1 k track there

  none_lacks : (ts : List TrackId) (start : ℕ) → ((k : ℕ) (track : TrackId) → slice_get ts k ≡ Some track → (file : File) × (wanted track ≡ Some file))
      → position_from lacks start ts ≡ None
  none_lacks [] start each = refl
  none_lacks (one ∷ ts) start each =
      let here : lacks one ≡ false = ap is_none (each 0 one refl).1 in
      ap (λ (b : Bool). cond b (Some start) (position_from lacks (start + 1) ts)) here ∙ none_lacks ts (start + 1) (λ k track there. each (suc k) track there)

  -- the file of a track by its number, in a list
  abbrev no_file : File
  no_file = record { path = []; bytes = [] }

  given : Option File → File
  given None = no_file
  given (Some file) = file

  abbrev at_track : Option TrackId → File
  at_track None = no_file
  at_track (Some track) = given (wanted track)

  given_bytes : (file : Option File) → (given file).bytes ≡ bytes_in file
  unfolding given
  given_bytes None = refl
  given_bytes (Some file) = refl

  module _ (ts : List TrackId) where
    abbrev file : ℕ → File
    file k = at_track (slice_get ts k)

    abbrev begin : ℕ → ℕ
    begin k = length (flat_map (track_bytes files folder) (take k ts))

  bytes_at : (ts : List TrackId) (k : ℕ) (track : TrackId) → slice_get ts k ≡ Some track → (file ts k).bytes ≡ track_bytes files folder track
  bytes_at ts k track there = ap (λ (t : Option TrackId). (at_track t).bytes) there ∙ given_bytes (wanted track)

  named : (ts : List TrackId) (k : ℕ) → k < length ts → (track : TrackId) × (slice_get ts k ≡ Some track)
  named [] k low = absurd (omega (arith, low))
  named (one ∷ ts) zero low = (one, refl)
  named (one ∷ ts) (suc k) low = named ts k (omega (arith, low))

  next : (ts : List TrackId) (k : ℕ) → k < length ts → begin ts (suc k) ≡ begin ts k + length (file ts k).bytes
  next [] k low = absurd (omega (arith, low))
  next (one ∷ ts) zero low =
      let here = ap length (bytes_at (one ∷ ts) 0 one refl) in
      let all : flat_map (track_bytes files folder) (one ∷ []) ≡ track_bytes files folder one = append-nil (track_bytes files folder one) in
      let size = ap length all in
      omega (arith, here, size)
  next (one ∷ ts) (suc k) low =
      let later = next ts k (omega (arith, low)) in
      let a = length-append (track_bytes files folder one) (flat_map (track_bytes files folder) (take (suc k) ts)) in
      let b = length-append (track_bytes files folder one) (flat_map (track_bytes files folder) (take k ts)) in
      omega (arith, later, a, b)

  read : (ts : List TrackId) (k i : ℕ) (track : TrackId) → slice_get ts k ≡ Some track → k < length ts → i < length (file ts k).bytes
      → get_or (flat_map (track_bytes files folder) ts) (begin ts k + i) 0 ≡ get_or (file ts k).bytes i 0
  read ts k i track there low below =
      let is : get_or ts k track ≡ track = get_or_from_slice_get ts k track track there in
      let bytes : track_bytes files folder (get_or ts k track) ≡ (file ts k).bytes = ap (track_bytes files folder) is ∙ sym (bytes_at ts k track there) in
      let size = ap length bytes in
      get_or-flat_map (track_bytes files folder) ts k i track 0 low (omega (arith, size, below)) ∙ ap (λ (bs : List ℕ). get_or bs i 0) bytes

  module _ (format : Format) (x : List ℕ) where
    abbrev ts : List TrackId
    ts = tracks format

    in_folder : first_missing files folder format ≡ None → joined files folder format ≡ x → AreInFolder files folder format x
    unfolding first_missing joined have given
    in_folder there is = record {
      file = file ts;
      each = λ k track named.
          let one = have ts 0 there k track named in
          let same : file ts k ≡ one.0 = ap at_track named ∙ ap given one.1 in
          subst (λ (f : File). IsFirstAt files (folder_path folder track) f) (sym same) (first (folder_path folder track) files one.0 one.1);
      begin = begin ts;
      first = refl;
      next = λ k low. (let e : suc k ≡ k + 1 = omega arith in ap (begin ts) (sym e) ∙ next ts k low);
      last = ap (λ (some : List TrackId). length (flat_map (track_bytes files folder) some)) (take-length ts) ∙ ap length is;
      bytes = λ k i low below.
          let one = named ts k low in
          ap (λ (bs : List ℕ). get_or bs (begin ts k + i) 0) (sym is) ∙ read ts k i one.0 one.1 low below;
    }

    module _ (are : AreInFolder files folder format x) where
      file_is : (k : ℕ) (track : TrackId) → slice_get ts k ≡ Some track → wanted track ≡ Some (are.file k)
      file_is k track there = found (folder_path folder track) files (are.file k) (are.each k track there)

      missing : first_missing files folder format ≡ None
      unfolding first_missing
      missing = none_lacks ts 0 (λ k track there. (are.file k, file_is k track there))

      next_begin : (k : ℕ) → k < length ts → are.begin (suc k) ≡ are.begin k + length (are.file k).bytes
      next_begin k low = (let e : k + 1 ≡ suc k = omega arith in subst (λ (n : ℕ). are.begin n ≡ are.begin k + length (are.file k).bytes) e (are.next k low))

      -- from number k on, where so many are left
      up : (rest k : ℕ) → k + rest ≡ length ts → are.begin k ≤ length x
      up zero k is = (let e : k ≡ length ts = omega (arith, is) in let last = are.last in let same = ap are.begin e in omega (arith, last, same))
      up (suc rest) k is =
          let later = up rest (suc k) (omega (arith, is)) in
          let step = next_begin k (omega (arith, is)) in
          omega (arith, later, step)

      all : (rest k : ℕ) → k + rest ≡ length ts → (some : List TrackId) → length some ≡ rest
          → ((j : ℕ) (track : TrackId) → slice_get some j ≡ Some track → slice_get ts (k + j) ≡ Some track)
          → drop (are.begin k) x ≡ flat_map (track_bytes files folder) some
      all rest k is [] size there =
          let e : k ≡ length ts = omega (arith, is, size) in
          let end : are.begin k ≡ length x = ap are.begin e ∙ are.last in
          ap (λ (n : ℕ). drop n x) end ∙ drop-length x
      all rest k is (one ∷ some) size there =
          let low : k < length ts = omega (arith, is, size) in
          let here : k + 0 ≡ k = omega arith in
          let track_is : slice_get ts k ≡ Some one = ap (slice_get ts) (sym here) ∙ there 0 one refl in
          let step = next_begin k low in
          let bound = up (length some) (suc k) (omega (arith, is, size)) in
          let bytes : (are.file k).bytes ≡ track_bytes files folder one = sym (ap bytes_in (file_is k one track_is)) in
          let e : are.begin k + length (are.file k).bytes ≡ are.begin (suc k) = sym step in
          at_place x (are.file k).bytes (are.begin k) (omega (arith, bound, step)) (λ i below. are.bytes k i low below)
          ∙ ap (λ (bs : List ℕ). bs ++ drop (are.begin k + length (are.file k).bytes) x) bytes
          ∙ ap (λ (n : ℕ). track_bytes files folder one ++ drop n x) e
          ∙ ap (λ (bs : List ℕ). track_bytes files folder one ++ bs)
          (all (length some) (suc k) (omega (arith, is, size)) some refl
          (λ j track at. (let e : k + suc j ≡ suc k + j = omega arith in ap (slice_get ts) (sym e) ∙ there (suc j) track at)))

      is_joined : joined files folder format ≡ x
      unfolding joined
      is_joined =
          let first = are.first in
          sym (all (length ts) 0 (omega arith) ts refl (λ j track at. (let e : 0 + j ≡ j = omega arith in ap (slice_get ts) e ∙ at)))
          ∙ ap (λ (n : ℕ). drop n x) first

pub folders : FoldersAreStated
folders files folder format x = (
  λ are. (missing files folder format x are, is_joined files folder format x are),
  λ is. in_folder files folder format x is.0 is.1,
)
