-- What a folder is by the names of what lies in it.
use Rattle.std.proofs.Common.{◌≡◌, ◌<◌, ◌≤◌, ◌+◌, ◌-◌, ◌&&◌, ◌||◌, ◌⊎◌, inl, inr, ℕ, Bool, true, false, List, [], ◌∷◌, ◌++◌, length, take, drop, nat_le, codes, Option, Some, None, get_or, arith, refl, sym, ◌∙◌, ap, if◌then◌else◌}
use Rattle.std.specs.Bool.{Decides}
use Rattle.std.specs.List.{cons_option, filter_map, list_all, list_any}
use Rattle.std.specs.Str.{IsUtf8, bytes_eq, is_utf8}
use Rattle.std.proofs.lemmas.Bool.{cases_lt}
use Rattle.std.proofs.lemmas.Bool.Decides.{nat_tests}
use Rattle.std.proofs.lemmas.List.{append-nil, drop-append-le, drop_all, length-take-le, take-append-le, take_all, take_more}
use Rattle.std.proofs.lemmas.List.Elements.{filter_map-append}
use Rattle.std.proofs.lemmas.List.Folds.{list_any-append}
use Rattle.std.proofs.lemmas.Slice.Eq.{bytes_eq-Decides}
use Rattle.std.proofs.lemmas.Str.{IsUtf8-from_is_utf8, is_utf8-from_IsUtf8}
use Rattle.std.proofs.Math.Bool.{or-false}
use Rattle.std.proofs.Math.Seq.{drop-append-add, take-append-add}
use Rattle.scp_files.specs.declared.fault.ScpFault.{ScpFault}
use Rattle.track_shelf.specs.Files.{File}
use Rattle.track_shelf.specs.DumpKinds.{MOST_PREFIX, first_named, is_plain, is_prefix, kind_by, kind_of_folder, name_in, names_in, prefix_of}
use Rattle.track_shelf.specs.Names.{ENDING_SIZE, names_file}
use Rattle.track_shelf.specs.declared.kind.DumpKind.{DumpKind}
use Rattle.track_shelf.specs.declared.kind.DumpKind.TheVariants.{NotThere, AFile, NoFiles, OtherTracks, Named, RefusedScp, Unknown}

pub false_true : false ≡ true → ⊥
false_true e = cc

abbrev pub is_track : List ℕ → Bool
is_track prefix = bytes_eq (codes "track") prefix

-- what a folder with files of one more prefix is
abbrev pub with_files : (prefix : List ℕ) → DumpKind → DumpKind
with_files prefix OtherTracks = OtherTracks
with_files prefix (Named first) = if is_track prefix then OtherTracks else Named first
with_files prefix NotThere = if is_track prefix then OtherTracks else Named prefix
with_files prefix AFile = if is_track prefix then OtherTracks else Named prefix
with_files prefix NoFiles = if is_track prefix then OtherTracks else Named prefix
with_files prefix (RefusedScp fault) = if is_track prefix then OtherTracks else Named prefix
with_files prefix Unknown = if is_track prefix then OtherTracks else Named prefix

-- where these are files `trackCC.H.raw`
pub files-of : (prefix : List ℕ) (kind : DumpKind) → is_track prefix ≡ true → with_files prefix kind ≡ OtherTracks
files-of prefix OtherTracks is = refl
files-of prefix (Named first) is = ap (λ (b : Bool). if b then OtherTracks else Named first) is
files-of prefix NotThere is = ap (λ (b : Bool). if b then OtherTracks else Named prefix) is
files-of prefix AFile is = ap (λ (b : Bool). if b then OtherTracks else Named prefix) is
files-of prefix NoFiles is = ap (λ (b : Bool). if b then OtherTracks else Named prefix) is
files-of prefix (RefusedScp fault) is = ap (λ (b : Bool). if b then OtherTracks else Named prefix) is
files-of prefix Unknown is = ap (λ (b : Bool). if b then OtherTracks else Named prefix) is

-- and where they are others, and the first
pub first-of : (prefix : List ℕ) (kind : DumpKind) → is_track prefix ≡ false
    → (kind ≡ NotThere) ⊎ ((kind ≡ AFile) ⊎ ((kind ≡ NoFiles) ⊎ (kind ≡ Unknown))) → with_files prefix kind ≡ Named prefix
first-of prefix kind none (inl is) = ap (with_files prefix) is ∙ ap (λ (b : Bool). if b then OtherTracks else Named prefix) none
first-of prefix kind none (inr (inl is)) = ap (with_files prefix) is ∙ ap (λ (b : Bool). if b then OtherTracks else Named prefix) none
first-of prefix kind none (inr (inr (inl is))) = ap (with_files prefix) is ∙ ap (λ (b : Bool). if b then OtherTracks else Named prefix) none
first-of prefix kind none (inr (inr (inr is))) = ap (with_files prefix) is ∙ ap (λ (b : Bool). if b then OtherTracks else Named prefix) none

pub first-scp : (prefix : List ℕ) (kind : DumpKind) {fault : ScpFault} → is_track prefix ≡ false → kind ≡ RefusedScp fault
    → with_files prefix kind ≡ Named prefix
first-scp prefix kind none is = ap (with_files prefix) is ∙ ap (λ (b : Bool). if b then OtherTracks else Named prefix) none

-- what it is with one name more, whose prefix this is
abbrev pub kind_with : Option (List ℕ) → DumpKind → DumpKind
kind_with (Some prefix) kind = with_files prefix kind
kind_with None NotThere = NoFiles
kind_with None AFile = AFile
kind_with None NoFiles = NoFiles
kind_with None OtherTracks = OtherTracks
kind_with None (Named first) = Named first
kind_with None (RefusedScp fault) = RefusedScp fault
kind_with None Unknown = Unknown

one-more : (prefixes : List (List ℕ)) (prefix : List ℕ) → kind_by (prefixes ++ prefix ∷ []) ≡ with_files prefix (kind_by prefixes)
one-more prefixes prefix =
    ap (λ (b : Bool). if b then OtherTracks else first_named (prefixes ++ prefix ∷ [])) (list_any-append is_track prefixes (prefix ∷ []) ∙ ap (λ (b : Bool). list_any is_track prefixes || b) (or-false (is_track prefix)))
    ∙ by prefixes (list_any is_track prefixes) (is_track prefix) refl
  where
    by : (before : List (List ℕ)) (a b : Bool) → is_track prefix ≡ b
        → (if a || b then OtherTracks else first_named (before ++ prefix ∷ [])) ≡ with_files prefix (if a then OtherTracks else first_named before)
    by before true b same = refl
    by [] false true same = sym (ap (λ (b : Bool). if b then OtherTracks else Named prefix) same)
    by [] false false same = sym (ap (λ (b : Bool). if b then OtherTracks else Named prefix) same)
    by (first ∷ rest) false true same = sym (ap (λ (b : Bool). if b then OtherTracks else Named first) same)
    by (first ∷ rest) false false same = sym (ap (λ (b : Bool). if b then OtherTracks else Named first) same)

no-more : (prefixes : List (List ℕ)) → kind_by prefixes ≡ kind_with None (kind_by prefixes)
no-more prefixes = by prefixes (list_any is_track prefixes)
  where
    by : (before : List (List ℕ)) (a : Bool) → (if a then OtherTracks else first_named before) ≡ kind_with None (if a then OtherTracks else first_named before)
    by before true = refl
    by [] false = refl
    by (first ∷ rest) false = refl

prefixes-more : (name : List ℕ) (names : List (List ℕ)) (prefix : Option (List ℕ)) → prefix ≡ prefix_of name
    → filter_map prefix_of (names ++ name ∷ []) ≡ filter_map prefix_of names ++ cons_option prefix []
prefixes-more name names prefix same =
    filter_map-append prefix_of names (name ∷ []) ∙ ap (λ (o : Option (List ℕ)). filter_map prefix_of names ++ cons_option o []) (sym same)

-- a folder with one name more
folder-more : (name : List ℕ) (names : List (List ℕ)) (prefix : Option (List ℕ)) → prefix ≡ prefix_of name
    → kind_of_folder (names ++ name ∷ []) ≡ kind_with prefix (kind_of_folder names)
unfolding kind_of_folder
folder-more name [] None same = ap (λ (o : Option (List ℕ)). kind_by (cons_option o [])) (sym same)
folder-more name [] (Some prefix) same =
    ap (λ (o : Option (List ℕ)). kind_by (cons_option o [])) (sym same) ∙ ap (λ (b : Bool). if b then OtherTracks else Named prefix) (or-false (is_track prefix))
folder-more name (first ∷ names) None same =
    ap kind_by (prefixes-more name (first ∷ names) None same ∙ append-nil (filter_map prefix_of (first ∷ names))) ∙ no-more (filter_map prefix_of (first ∷ names))
folder-more name (first ∷ names) (Some prefix) same =
    ap kind_by (prefixes-more name (first ∷ names) (Some prefix) same) ∙ one-more (filter_map prefix_of (first ∷ names)) prefix

pub kind-more : (kind : DumpKind) (prefix : Option (List ℕ)) (name : List ℕ) (names : List (List ℕ)) → prefix ≡ prefix_of name → kind ≡ kind_of_folder names
    → kind_with prefix kind ≡ kind_of_folder (names ++ name ∷ [])
kind-more kind prefix name names same is = ap (kind_with prefix) is ∙ sym (folder-more name names prefix same)

-- the first bytes of a text that comes in two parts, and the rest
pub cut-parts : (front back : List ℕ) (count : ℕ)
    → (take count (front ++ back) ≡ take count front ++ take (count - length (take count front)) back)
    × (drop count (front ++ back) ≡ drop count front ++ drop (count - length (take count front)) back)
cut-parts front back count = by (cases_lt (length front) count)
  where
    by : (length front < count) ⊎ (count ≤ length front)
        → (take count (front ++ back) ≡ take count front ++ take (count - length (take count front)) back)
        × (drop count (front ++ back) ≡ drop count front ++ drop (count - length (take count front)) back)
    by (inl short) =
        let whole : take count front ≡ front = take_all count front (omega (arith, short)) in
        let none : drop count front ≡ [] = drop_all count front (omega (arith, short)) in
        let left : count ≡ length front + (count - length front) = omega (arith, short) in (
          ap (λ n. take n (front ++ back)) left ∙ take-append-add front back (count - length front)
              ∙ sym (ap (λ (f : List ℕ). f ++ take (count - length f) back) whole),
          ap (λ n. drop n (front ++ back)) left ∙ drop-append-add front back (count - length front)
              ∙ sym (ap (λ (f : List ℕ). drop count front ++ drop (count - length f) back) whole ∙ ap (λ (f : List ℕ). f ++ drop (count - length front) back) none),
        )
    by (inr long) =
        let size : length (take count front) ≡ count = length-take-le count front long in
        let none : count - length (take count front) ≡ 0 = omega (arith, size) in (
          take-append-le count front back long ∙ sym (append-nil (take count front)) ∙ sym (ap (λ n. take count front ++ take n back) none),
          drop-append-le count front back long ∙ sym (ap (λ n. drop count front ++ drop n back) none),
        )

-- a text that stands before an ending, and what is none
pub not-text : (bytes : List ℕ) → (IsUtf8 bytes → ⊥) → is_prefix bytes ≡ false
not-text bytes none = by (nat_le (length bytes) MOST_PREFIX) (list_all is_plain bytes) (is_utf8 bytes) refl
  where
    by : (a b c : Bool) → is_utf8 bytes ≡ c → (a && (b && c)) ≡ false
    by a b true is = absurd (none (IsUtf8-from_is_utf8 bytes is))
    by true true false is = refl
    by true false false is = refl
    by false b false is = refl

pub is-text : (bytes : List ℕ) → length bytes ≤ MOST_PREFIX → list_all is_plain bytes ≡ true → IsUtf8 bytes → is_prefix bytes ≡ true
is-text bytes few plain is =
    let short : nat_le (length bytes) MOST_PREFIX ≡ true = grind (arith, nat_tests, few) in
    ap (λ (b : Bool). b && (list_all is_plain bytes && is_utf8 bytes)) short
    ∙ ap (λ (b : Bool). b && is_utf8 bytes) plain
    ∙ is_utf8-from_IsUtf8 bytes is

-- a name that is too long has no prefix
pub long-none : (name : List ℕ) → 255 < length name → prefix_of name ≡ None
unfolding prefix_of
long-none name long =
    let front = take (length name - ENDING_SIZE) name in
    let size : length front ≡ length name - 8 = length-take-le (length name - ENDING_SIZE) name (omega arith) in
    let most : nat_le (length front) MOST_PREFIX ≡ false = grind (arith, nat_tests, size, long) in
    by (names_file name) front (ap (λ (b : Bool). b && (list_all is_plain front && is_utf8 front)) most)
  where
    by : (named : Bool) (front : List ℕ) → is_prefix front ≡ false → (if named && is_prefix front then Some front else None) ≡ None
    by true front none = ap (λ (b : Bool). if b then Some front else None) none
    by false front none = refl

-- what stands in a path of two parts behind a folder
pub named-in : (folder front back f1 f2 b1 b2 : List ℕ) (r : Bool) → f1 ≡ take (length folder + 1) front → f2 ≡ drop (length folder + 1) front
    → b1 ≡ take (length folder + 1 - length f1) back → b2 ≡ drop (length folder + 1 - length f1) back → Decides r (f1 ++ b1 ≡ folder ++ codes "/")
    → (if r then Some (f2 ++ b2) else None) ≡ name_in folder (front ++ back)
unfolding name_in
named-in folder front back f1 f2 b1 b2 r f1-is f2-is b1-is b2-is decides =
    ap (λ (name : List ℕ). if r then Some name else None) tail
    ∙ ap (λ (b : Bool). if b then Some (drop (length folder + 1) (front ++ back)) else None) (by r (bytes_eq (take (length folder + 1) (front ++ back)) (folder ++ codes "/")) decides refl)
  where
    count : ℕ
    count = length folder + 1

    head : f1 ++ b1 ≡ take (length folder + 1) (front ++ back)
    head =
        ap (λ (s : List ℕ). f1 ++ s) b1-is ∙ ap (λ (s : List ℕ). s ++ take (length folder + 1 - length s) back) f1-is
        ∙ sym (cut-parts front back (length folder + 1)).0

    tail : f2 ++ b2 ≡ drop (length folder + 1) (front ++ back)
    tail =
        ap (λ (s : List ℕ). s ++ b2) f2-is ∙ ap (λ (s : List ℕ). drop (length folder + 1) front ++ s) b2-is
        ∙ ap (λ (s : List ℕ). drop (length folder + 1) front ++ drop (length folder + 1 - length s) back) f1-is
        ∙ sym (cut-parts front back (length folder + 1)).1

    by : (a b : Bool) → Decides a (f1 ++ b1 ≡ folder ++ codes "/") → bytes_eq (take (length folder + 1) (front ++ back)) (folder ++ codes "/") ≡ b → a ≡ b
    by true true d e = refl
    by false false d e = refl
    by true false d e = absurd (false_true (sym e ∙ (bytes_eq-Decides (take (length folder + 1) (front ++ back)) (folder ++ codes "/")).1 (sym head ∙ d.0 refl)))
    by false true d e = absurd (false_true (d.1 (head ∙ (bytes_eq-Decides (take (length folder + 1) (front ++ back)) (folder ++ codes "/")).0 e)))

-- the names in a folder with one file more
pub names-more : (files : List File) (folder : List ℕ) (number : ℕ) (file : File) → number < length files → file ≡ get_or files number file
    → names_in (take (number + 1) files) folder ≡ names_in (take number files) folder ++ cons_option (name_in folder file.path) []
names-more files folder number file below is =
    ap (λ (fs : List File). names_in fs folder) (take_more files number file below)
    ∙ filter_map-append (λ (f : File). name_in folder f.path) (take number files) (get_or files number file ∷ [])
    ∙ ap (λ (f : File). names_in (take number files) folder ++ cons_option (name_in folder f.path) []) (sym is)

-- no name is in a folder that is not there
pub no-names : NotThere ≡ kind_of_folder []
unfolding kind_of_folder
no-names = refl
