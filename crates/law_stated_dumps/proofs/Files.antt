-- The file of a track in a dump is the first that has its path, and the bytes with which it begins.
use Rattle.std.specs.Prelude.{◌≡◌, ◌≢◌, ◌<◌, ◌⊎◌, ℕ, All, Bool, true, false, List, [], ◌∷◌, ◌++◌, cond, drop, length, refl, slice_get, slice_index, take, Option, Some, None, Result, Ok, Err, option_and_then}
use Rattle.std.specs.Bool.{Decides}
use Rattle.std.proofs.Common.{arith, ap, sym, subst, ◌∙◌, inl, inr, length-append}
use Rattle.std.proofs.lemmas.Grind.{same_number_lists}
use Rattle.std.proofs.lemmas.List.{get_or-take, get_or_append_left, length-take-le, take-append-drop}
use Rattle.std.proofs.lemmas.List.Elements.{All-cons, All-head, All-nil, All-tail}
use Rattle.std.proofs.lemmas.Slice.Eq.{bytes_eq-Decides}
use Rattle.dump_reading.specs.Outcomes.{DumpDisk}
use Rattle.dump_reading.specs.lemmas.DumpTracks.{in_file, of-file, of-scp}
use Rattle.flux_base.specs.declared.track.TrackId.{TrackId}
use Rattle.law_captured_dumps.specs.Inputs.{track_on}
use Rattle.law_stated_dumps.specs.Dumps.{BeginWith, HasBytes, HasTrack, IsFileOf, LacksFile, LacksTrack, file_on, lies_on, path_in}
use Rattle.scp_files.specs.Disks.{scp_track}
use Rattle.scp_files.specs.declared.fault.ScpTrackFault.{ScpTrackFault}
use Rattle.law_stated_dumps.specs.Laws.{FilesAreStated, StreamsOfFilesAreStated}
use Rattle.track_shelf.specs.Files.{File, dump_track, file_at, has_path, scp_track_in}
use Rattle.track_shelf.specs.Names.{ScpDumpsAreFiles, is_scp, path_text}

same_some : (a b : File) → Some a ≡ Some b → a ≡ b
same_some a b is = cc

not_none : (a : File) → None ≡ Some a → ⊥
not_none a is = cc

not_some : (a : File) → Some a ≡ None → ⊥
not_some a is = cc

is_false : {A : Type 0} (b : Bool) → Decides b A → (A → ⊥) → b ≡ false
is_false true decides other = absurd (other (decides.0 refl))
is_false false decides other = refl

not_both : (b : Bool) → b ≡ true → b ≡ false → ⊥
not_both b one other = cc

module _ (path : List ℕ) where
  abbrev Other : File → Type 0
  Other file = file.path ≢ path

  abbrev by_path : (file : File) → Decides (has_path path file) (file.path ≡ path)
  by_path file = bytes_eq-Decides file.path path

  pub record IsFirst (files : List File) (file : File) : Type 0 where
    pub before : List File
    pub behind : List File
    pub lies : before ++ file ∷ behind ≡ files
    pub is : file.path ≡ path
    pub none_before : All Other before

  first_by : (first file : File) (files : List File) (here : Bool) → has_path path first ≡ here → cond here (Some first) (file_at files path) ≡ Some file
      → (file_at files path ≡ Some file → IsFirst files file) → IsFirst (first ∷ files) file
  first_by first file files true here is later =
      let same = same_some first file is in
      record {
        before = [];
        behind = files;
        lies = ap (λ (f : File). f ∷ files) (sym same);
        is = subst (λ (f : File). f.path ≡ path) same ((by_path first).0 here);
        none_before = All-nil Other;
      }
  first_by first file files false here is later =
      let rest = later is in
      record {
        before = first ∷ rest.before;
        behind = rest.behind;
        lies = ap (λ (fs : List File). first ∷ fs) rest.lies;
        is = rest.is;
        none_before = All-cons Other first rest.before (λ same. not_both (has_path path first) ((by_path first).1 same) here) rest.none_before;
      }

  pub first : (files : List File) (file : File) → file_at files path ≡ Some file → IsFirst files file
  first [] file is = absurd (not_none file is)
  first (one ∷ files) file is = first_by one file files (has_path path one) refl is (first files file)

  pub at : (before : List File) (file : File) (behind : List File) → file.path ≡ path → All Other before → file_at (before ++ file ∷ behind) path ≡ Some file
  at [] file behind is none = ap (λ (b : Bool). cond b (Some file) (file_at behind path)) ((by_path file).1 is)
  at (one ∷ before) file behind is none =
      ap (λ (b : Bool). cond b (Some one) (file_at (before ++ file ∷ behind) path)) (is_false (has_path path one) (by_path one) (All-head Other one before none))
      ∙ at before file behind is (All-tail Other one before none)

  pub none : (files : List File) → All Other files → file_at files path ≡ None
  none [] all = refl
  none (one ∷ files) all =
      ap (λ (b : Bool). cond b (Some one) (file_at files path)) (is_false (has_path path one) (by_path one) (All-head Other one files all))
      ∙ none files (All-tail Other one files all)

  others_by : (one : File) (files : List File) (here : Bool) → has_path path one ≡ here → cond here (Some one) (file_at files path) ≡ None
      → (file_at files path ≡ None → All Other files) → All Other (one ∷ files)
  others_by one files true here is later = absurd (not_some one is)
  others_by one files false here is later = All-cons Other one files (λ same. not_both (has_path path one) ((by_path one).1 same) here) (later is)

  pub others : (files : List File) → file_at files path ≡ None → All Other files
  others [] is = All-nil Other
  others (one ∷ files) is = others_by one files (has_path path one) refl is (others files)

module _ (disk : DumpDisk) (files : List File) (n dump : ℕ) where
  abbrev pub by_name : List ℕ → Option File
  by_name name = file_at files (path_in disk name n)

  found : (file : File) (is : IsFileOf disk files n dump file) → file_at files (path_in disk is.name n) ≡ Some file
  found file is = subst (λ (fs : List File). file_at fs (path_in disk is.name n) ≡ Some file) is.lies (at (path_in disk is.name n) is.before file is.behind is.path is.none_before)

  pub there : (file : File) → IsFileOf disk files n dump file → file_on disk files n dump ≡ Some file
  there file is = ap (option_and_then by_name) is.named ∙ found file is

  file_by : (file : File) (name : Option (List ℕ)) → slice_get disk.dumps dump ≡ name → option_and_then by_name name ≡ Some file → IsFileOf disk files n dump file
  file_by file None named is = absurd (not_none file is)
  file_by file (Some name) named is =
      let one = first (path_in disk name n) files file is in
      record { name = name; named = named; path = one.is; before = one.before; behind = one.behind; lies = one.lies; none_before = one.none_before }

  pub file_of : (file : File) → file_on disk files n dump ≡ Some file → IsFileOf disk files n dump file
  file_of file is = file_by file (slice_get disk.dumps dump) refl is

  missing_by : (name : Option (List ℕ)) → slice_get disk.dumps dump ≡ name → LacksFile disk files n dump → option_and_then by_name name ≡ None
  missing_by None named lacks = refl
  missing_by (Some name) named lacks = none (path_in disk name n) files (lacks name named)

  pub missing : LacksFile disk files n dump → file_on disk files n dump ≡ None
  missing lacks = missing_by (slice_get disk.dumps dump) refl lacks

  pub lacks : file_on disk files n dump ≡ None → LacksFile disk files n dump
  lacks is name named = others (path_in disk name n) files (sym (ap (option_and_then by_name) named) ∙ is)

-- what a dump may have of a track
abbrev Has : Type 0
Has = Option (Result (List ℕ) ScpTrackFault)

pub none_ok : (it : Has) (bytes : List ℕ) → it ≡ None → it ≡ Some (Ok bytes) → ⊥
none_ok it bytes none is = cc

same_bytes : (it : Has) (a b : List ℕ) → it ≡ Some (Ok a) → it ≡ Some (Ok b) → b ≡ a
same_bytes it a b one other = cc

-- what a dump has of a track
module _ (whole : ScpDumpsAreFiles) (disk : DumpDisk) (files : List File) (n dump : ℕ) where
  abbrev track : TrackId
  track = lies_on disk n

  abbrev by_track : List ℕ → Has
  by_track name = dump_track files name track

  -- of an SCP file, which is there
  in_scp : (name : List ℕ) (file : File) → is_scp name ≡ true → file_at files (path_in disk name n) ≡ Some file → by_track name ≡ scp_track file.bytes track
  in_scp name file scp is =
      of-scp files name track scp ∙ ap (λ (f : Option File). scp_track_in f track) (sym (ap (file_at files) (whole name track scp)) ∙ is)

  -- of another dump
  in_other : (name : List ℕ) (file : File) → is_scp name ≡ false → file_at files (path_in disk name n) ≡ Some file → by_track name ≡ Some (Ok file.bytes)
  in_other name file other is = of-file files name track other ∙ ap in_file is

  -- where there is no file, nothing
  in_none : (name : List ℕ) → file_at files (path_in disk name n) ≡ None → by_track name ≡ None
  in_none name gone = by (is_scp name) refl
    where
      by : (b : Bool) → is_scp name ≡ b → by_track name ≡ None
      by true scp = of-scp files name track scp ∙ ap (λ (f : Option File). scp_track_in f track) (sym (ap (file_at files) (whole name track scp)) ∙ gone)
      by false other = of-file files name track other ∙ ap in_file gone

  by_bytes : (name : List ℕ) (file : File) (bytes : List ℕ) → file_at files (path_in disk name n) ≡ Some file → HasBytes disk name n file bytes → by_track name ≡ Some (Ok bytes)
  by_bytes name file bytes is (inl own) = in_other name file own.0 is ∙ ap (λ (b : List ℕ). Some (Ok b)) (sym own.1)
  by_bytes name file bytes is (inr scp) = in_scp name file scp.0 is ∙ scp.1

  pub has_track : (bytes : List ℕ) → HasTrack disk files n dump bytes → track_on disk files n dump ≡ Some (Ok bytes)
  has_track bytes has =
      ap (option_and_then by_track) has.is.named ∙ by_bytes has.is.name has.file bytes (found disk files n dump has.file has.is) has.has

  -- what a named dump has
  module _ (name : List ℕ) (named : slice_get disk.dumps dump ≡ Some name) where
    -- the file that is found is the one that is stated
    abbrev is_file : (file : File) → file_at files (path_in disk name n) ≡ Some file → IsFileOf disk files n dump file
    is_file file at = record {
      name = name;
      named = named;
      path = (first (path_in disk name n) files file at).is;
      before = (first (path_in disk name n) files file at).before;
      behind = (first (path_in disk name n) files file at).behind;
      lies = (first (path_in disk name n) files file at).lies;
      none_before = (first (path_in disk name n) files file at).none_before;
    }

    of_scp : (bytes : List ℕ) → is_scp name ≡ true → by_track name ≡ Some (Ok bytes) → (file : Option File) → file_at files (path_in disk name n) ≡ file → HasTrack disk files n dump bytes
    of_scp bytes scp is None at = absurd (none_ok (by_track name) bytes (in_none name at) is)
    of_scp bytes scp is (Some file) at = record { file = file; is = is_file file at; has = inr (scp, sym (in_scp name file scp at) ∙ is) }

    of_other : (bytes : List ℕ) → is_scp name ≡ false → by_track name ≡ Some (Ok bytes) → (file : Option File) → file_at files (path_in disk name n) ≡ file → HasTrack disk files n dump bytes
    of_other bytes other is None at = absurd (none_ok (by_track name) bytes (in_none name at) is)
    of_other bytes other is (Some file) at =
        record { file = file; is = is_file file at; has = inl (other, same_bytes (by_track name) file.bytes bytes (in_other name file other at) is) }

    pub of_track : (bytes : List ℕ) → by_track name ≡ Some (Ok bytes) → HasTrack disk files n dump bytes
    of_track bytes is = by (is_scp name) refl
      where
        by : (b : Bool) → is_scp name ≡ b → HasTrack disk files n dump bytes
        by true scp = of_scp bytes scp is (file_at files (path_in disk name n)) refl
        by false other = of_other bytes other is (file_at files (path_in disk name n)) refl

    -- it has nothing: there is no file, or an SCP file without the track
    not_ok : (o : Has) → ((bytes : List ℕ) → o ≢ Some (Ok bytes)) → (p : Has) → p ≡ o → (bytes : List ℕ) → p ≢ Some (Ok bytes)
    not_ok o none p same bytes is = none bytes (sym same ∙ is)

    of_none : ((bytes : List ℕ) → by_track name ≢ Some (Ok bytes)) → LacksFile disk files n dump ⊎ LacksTrack disk files n dump
    of_none none = by (file_at files (path_in disk name n)) refl (is_scp name) refl
      where
        by : (file : Option File) → file_at files (path_in disk name n) ≡ file → (b : Bool) → is_scp name ≡ b → LacksFile disk files n dump ⊎ LacksTrack disk files n dump
        by None at b is = inl (lacks disk files n dump (ap (option_and_then (by_name disk files n dump)) named ∙ at))
        by (Some file) at true scp =
            inr (record { file = file; is = is_file file at; scp = scp; none = not_ok (by_track name) none (scp_track file.bytes track) (sym (in_scp name file scp at)) })
        by (Some file) at false other = absurd (none file.bytes (in_other name file other at))

  pub track_has : (bytes : List ℕ) → track_on disk files n dump ≡ Some (Ok bytes) → HasTrack disk files n dump bytes
  track_has bytes is = by (slice_get disk.dumps dump) refl is
    where
      by : (name : Option (List ℕ)) → slice_get disk.dumps dump ≡ name → option_and_then by_track name ≡ Some (Ok bytes) → HasTrack disk files n dump bytes
      by None named same = absurd (none_ok None bytes refl same)
      by (Some name) named same = of_track name named bytes same

  -- where there is no file, or an SCP file without the track, there are no bytes
  pub no_bytes : LacksFile disk files n dump ⊎ LacksTrack disk files n dump → (bytes : List ℕ) → track_on disk files n dump ≢ Some (Ok bytes)
  no_bytes (inl gone) bytes same =
      let has = track_has bytes same in
      not_none has.file (sym (missing disk files n dump gone) ∙ there disk files n dump has.file has.is)
  no_bytes (inr it) bytes same =
      it.none bytes (sym (in_scp it.is.name it.file it.scp (found disk files n dump it.file it.is)) ∙ sym (ap (option_and_then by_track) it.is.named) ∙ same)

  pub bytes_none : ((bytes : List ℕ) → track_on disk files n dump ≢ Some (Ok bytes)) → LacksFile disk files n dump ⊎ LacksTrack disk files n dump
  bytes_none none = by (slice_get disk.dumps dump) refl
    where
      by : (name : Option (List ℕ)) → slice_get disk.dumps dump ≡ name → LacksFile disk files n dump ⊎ LacksTrack disk files n dump
      by None named = inl (lacks disk files n dump (ap (option_and_then (by_name disk files n dump)) named))
      by (Some name) named = of_none name named (λ bytes same. none bytes (ap (option_and_then by_track) named ∙ same))

pub files_are : ScpDumpsAreFiles → FilesAreStated
files_are scp = record {
  there = λ disk files n dump file. (there disk files n dump file, file_of disk files n dump file);
  missing = λ disk files n dump. (missing disk files n dump, lacks disk files n dump);
  track = λ disk files n dump bytes. (has_track scp disk files n dump bytes, track_has scp disk files n dump bytes);
}

begins : (bytes front : List ℕ) → BeginWith bytes front → bytes ≡ front ++ drop (length front) bytes
begins bytes front begin =
    let n : ℕ = length front in
    let size = length-take-le n bytes begin.long in
    let same : take n bytes ≡ front =
    same_number_lists (take n bytes) front size
    (λ i below. (let low : i < n = omega (arith, below, size) in get_or-take n bytes i 0 low ∙ begin.same i low)) in
    sym (take-append-drop n bytes) ∙ ap (λ (xs : List ℕ). xs ++ drop n bytes) same

begins_with : (bytes front later : List ℕ) → bytes ≡ front ++ later → BeginWith bytes front
begins_with bytes front later is =
    let size : length bytes ≡ length (front ++ later) = ap length is in
    record {
      long = (let both = length-append front later in omega (arith, size, both));
      same = λ i below. ap (λ (xs : List ℕ). slice_index xs i) is ∙ get_or_append_left front later 0 i below;
    }

pub streams_are : ScpDumpsAreFiles → StreamsOfFilesAreStated
streams_are scp disk files n dump stream = (
  λ has. record {
    bytes = has.bytes;
    there = has_track scp disk files n dump has.bytes has.has;
    later = drop (length stream) has.bytes;
    is = begins has.bytes stream has.begins;
  },
  λ begin. record { bytes = begin.bytes; has = track_has scp disk files n dump begin.bytes begin.there; begins = begins_with begin.bytes stream begin.later begin.is },
)
