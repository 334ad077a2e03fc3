-- Files of three dumps, of which one is missing and one damaged.
use Rattle.std.specs.Prelude.{◌≡◌, ◌≢◌, ℕ, All, false, List, [], ◌∷◌, ◌++◌, refl, Some, None}
use Rattle.std.proofs.Common.{arith, sym, subst, ◌∙◌, inl, inr, length-append}
use Rattle.std.proofs.lemmas.List.{get_or_append_left}
use Rattle.std.proofs.lemmas.List.Elements.{All-cons, All-nil}
use Rattle.dump_reading.specs.Outcomes.{DumpDisk}
use Rattle.dump_reading.specs.declared.looks.Looks.{Looks}
use Rattle.flux_base.specs.declared.track.TrackId.{TrackId}
use Rattle.flux_engine.specs.Recordings.{track_at}
use Rattle.flux_engine.specs.declared.plan.Clocks.{Clocks}
use Rattle.kryo_stream.specs.Stream.{first_fault}
use Rattle.law_stated_disks.specs.Reached.{IsLate, LatePiecesHaveSectors}
use Rattle.law_stated_dumps.specs.Dumps.{HasStream, IsFileOf, LacksFile, path_in}
use Rattle.law_stated_dumps.specs.Reached.{AreMixed, DumpsReachBounds, three_dumps}
use Rattle.sector_images.specs.declared.format.Format.{Format}
use Rattle.track_shelf.specs.Files.{File}
use Rattle.track_shelf.specs.Names.{file_name_text, folder_path, is_scp, names_file, path_text}
use Rattle.track_shelf.specs.Stepping.{file_track}
use Rattle.track_shelf.specs.declared.stepping.Stepping.{Stepping}

-- the paths in two folders with names of one letter differ
same_letter : (one two : ℕ) (xs ys : List ℕ) → one ∷ xs ≡ two ∷ ys → one ≡ two
same_letter one two xs ys is = cc

begins_with : (letter : ℕ) (track : TrackId) → (rest : List ℕ) × (path_text (letter ∷ []) track ≡ letter ∷ rest)
unfolding path_text names_file is_scp folder_path
begins_with letter track = (47 ∷ file_name_text track, refl)

differ : (first second : ℕ) (track : TrackId) → first ≢ second → path_text (first ∷ []) track ≢ path_text (second ∷ []) track
differ first second track other same =
    let one = begins_with first track in
    let two = begins_with second track in
    let both : first ∷ one.0 ≡ second ∷ two.0 = sym one.1 ∙ same ∙ two.1 in
    other (same_letter first second one.0 two.0 both)

-- nor are these names of SCP files
no_scp : (letter : ℕ) → is_scp (letter ∷ []) ≡ false
unfolding is_scp
no_scp letter = refl

abbrev a : ℕ
a = 97

abbrev b : ℕ
b = 98

abbrev c : ℕ
c = 99

letters : (a ≢ b) × (a ≢ c) × (c ≢ b)
letters = (λ is. omega (arith, is), λ is. omega (arith, is), λ is. omega (arith, is))

damaged : first_fault [] ≢ None
damaged is = absurd (no_fault is)
  where
    no_fault : first_fault [] ≡ None → ⊥
    no_fault is = cc

same_some : (a b : List ℕ) → Some a ≡ Some b → a ≡ b
same_some a b is = cc

module _ (stepping : Stepping) (format : Format) (clocks : Clocks) (looks : Looks) (image : List ℕ) (n : ℕ) (later stream : List ℕ) (late : IsLate format image n stream) where
  abbrev disk : DumpDisk
  disk = three_dumps stepping format clocks looks

  abbrev pub whole_file : File
  whole_file = record { path = path_in disk (97 ∷ []) n; bytes = stream ++ later }

  abbrev pub damaged_file : File
  damaged_file = record { path = path_in disk (99 ∷ []) n; bytes = [] }

  abbrev pub files : List File
  files = whole_file ∷ damaged_file ∷ []

  abbrev Other : ℕ → File → Type 0
  Other letter file = file.path ≢ path_in disk (letter ∷ []) n

  abbrev is_first : IsFileOf disk files n 0 whole_file
  is_first = record { name = 97 ∷ []; named = refl; path = refl; before = []; behind = damaged_file ∷ []; lies = refl; none_before = All-nil (Other 97) }

  has : HasStream disk files n 0 stream
  has = record {
    bytes = stream ++ later;
    has = record { file = whole_file; is = is_first; has = inl (no_scp 97, refl) };
    begins = record { long = (let both = length-append stream later in omega (arith, both)); same = λ i below. get_or_append_left stream later 0 i below };
  }

  missing : LacksFile disk files n 1
  missing name named =
      subst (λ (name : List ℕ). All (λ (other : File). other.path ≢ path_in disk name n) files) (same_some (98 ∷ []) name named)
      (All-cons (Other 98) whole_file (damaged_file ∷ []) (differ 97 98 (file_track stepping (track_at format n)) letters.0)
      (All-cons (Other 98) damaged_file [] (differ 99 98 (file_track stepping (track_at format n)) letters.2) (All-nil (Other 98))))

  pub mixed : AreMixed disk image n later files
  mixed = record {
    file = whole_file;
    is = is_first;
    a_folder = no_scp 97;
    stream = stream;
    bytes = refl;
    late = late;
    whole = λ sector one. record {
      stream = stream;
      has = has;
      whole = inr (late.capture, record { before = late.first ∷ []; piece = late.second; behind = []; one = sym late.are; lies = late.whole sector one });
    };
    kept = record { stream = stream; has = has; kept = inr (late.capture, late.steady) };
    missing = missing;
    damaged = record {
      bytes = [];
      has = record {
        file = damaged_file;
        is = record {
          name = 99 ∷ [];
          named = refl;
          path = refl;
          before = whole_file ∷ [];
          behind = [];
          lies = refl;
          none_before = All-cons (Other 99) whole_file [] (differ 97 99 (file_track stepping (track_at format n)) letters.1) (All-nil (Other 99));
        };
        has = inl (no_scp 99, refl);
      };
      fault = damaged;
    };
  }

pub dumps_reach : LatePiecesHaveSectors → DumpsReachBounds
dumps_reach have stepping format clocks looks image n index later is known early =
    let made = have format image n index is known early in
    (files stepping format clocks looks image n later made.0 made.1, mixed stepping format clocks looks image n later made.0 made.1)
