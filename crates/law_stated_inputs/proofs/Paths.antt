-- The paths of a dump's files are spelled byte by byte.
use Rattle.std.specs.Prelude.{◌≡◌, ◌≢◌, ◌≤◌, ◌<◌, ◌⊎◌, ◌&&◌, ◌||◌, ◌==◌, ℕ, suc, ◌+◌, ◌-◌, ◌/◌, ◌%◌, Bool, true, false, List, [], ◌∷◌, ◌++◌, codes, cond, decimal, drop, length, map, nat_lt, refl, slice_index, take, if◌then◌else◌}
use Rattle.std.specs.Char.{to_ascii_lowercase}
use Rattle.std.specs.Str.{str_eq_ignore_ascii_case}
use Rattle.std.proofs.Common.{arith, ap, sym, ◌∙◌, append_assoc, inl, inr, length-append}
use Rattle.std.proofs.lemmas.Bool.{lt-ltb, ltb-true}
use Rattle.std.proofs.lemmas.Fmt.{decimal_digit}
use Rattle.std.proofs.lemmas.List.{length-take-le, take-append-drop}
use Rattle.std.proofs.lemmas.Slice.Eq.{bytes_eq-Decides}
use Rattle.std.proofs.Math.Seq.{drop-append_seam, take-append_seam}
use Rattle.std.proofs.lemmas.Bool.Decides.{nat_tests}
use Rattle.flux_base.specs.declared.track.TrackId.{TrackId}
use Rattle.law_stated_inputs.specs.Laws.{PathsAreStated}
use Rattle.law_stated_inputs.specs.Paths.{IsNameOfFile, IsNameOfScp, ending, ending_of, path_in_folder}
use Rattle.sector_report.specs.Lines.{two_digits}
use Rattle.track_shelf.specs.Names.{ENDING_SIZE, IsNamed, NamesAreFiles, ending_text, file_name_text, folder_path, is_digit, is_ending, is_scp, names_file, path_text, ScpDumpsAreFiles}

ending_is : (track : TrackId) → IsNamed track → ending_text track ≡ ending_of track.cylinder track.head
unfolding ending_text two_digits
ending_is track named =
    let cylinder = named.cylinder in
    let head = named.head in
    let tens : decimal (track.cylinder / 10) ≡ (48 + track.cylinder / 10) ∷ [] = decimal_digit (track.cylinder / 10) (omega (arith, cylinder)) in
    let ones : decimal (track.cylinder % 10) ≡ (48 + track.cylinder % 10) ∷ [] = decimal_digit (track.cylinder % 10) (omega arith) in
    let side : decimal track.head ≡ (48 + track.head) ∷ [] = decimal_digit track.head (omega (arith, head)) in
    ap (λ (ds : List ℕ). (ds ++ decimal (track.cylinder % 10)) ++ codes "." ++ decimal track.head ++ codes ".raw") tens
    ∙ ap (λ (ds : List ℕ). (((48 + track.cylinder / 10) ∷ []) ++ ds) ++ codes "." ++ decimal track.head ++ codes ".raw") ones
    ∙ ap (λ (ds : List ℕ). (48 + track.cylinder / 10) ∷ (48 + track.cylinder % 10) ∷ 46 ∷ (ds ++ codes ".raw")) side

in_folder : (folder : List ℕ) (track : TrackId) → IsNamed track → folder_path folder track ≡ path_in_folder folder track.cylinder track.head
unfolding folder_path file_name_text
in_folder folder track named =
    append_assoc folder (codes "/") (codes "track" ++ ending_text track)
    ∙ ap (λ (ds : List ℕ). folder ++ 47 ∷ 116 ∷ 114 ∷ 97 ∷ 99 ∷ 107 ∷ ds) (ending_is track named)

digit : (d : ℕ) → d ≤ 9 → is_digit (48 + d) ≡ true
digit d low = grind (arith, nat_tests)

side : (h : ℕ) → h ≤ 1 → (48 + h == 48 || 48 + h == 49) ≡ true
side h low = grind (arith, nat_tests)

told : (tens ones head : ℕ) → tens ≤ 9 → ones ≤ 9 → head ≤ 1 → is_ending (ending tens ones head) ≡ true
unfolding is_ending
told tens ones head a b c =
    ap (λ (b : Bool). b && (is_digit (48 + ones) && (true && ((48 + head == 48 || 48 + head == 49) && true)))) (digit tens a)
    ∙ ap (λ (b : Bool). b && (true && ((48 + head == 48 || 48 + head == 49) && true))) (digit ones b)
    ∙ ap (λ (b : Bool). b && true) (side head c)

some_bytes : (front : List ℕ) → front ≢ [] → 0 < length front
some_bytes [] some = absurd (some refl)
some_bytes (byte ∷ bytes) some = omega arith

-- the path in a dump that is not named by one of its files
abbrev other_path : (name : List ℕ) → TrackId → List ℕ
other_path name track = if is_scp name then name else folder_path name track

-- what is done with a name of two parts, of which the second is an ending
split : (front back : List ℕ) (track : TrackId) → 0 < length front → length back ≡ 8 → is_ending back ≡ true
    → path_text (front ++ back) track ≡ front ++ ending_text track
unfolding path_text names_file
split front back track some size is =
    let all : List ℕ = front ++ back in
    let whole : length all ≡ length front + 8 = length-append front back ∙ ap (λ (n : ℕ). length front + n) size in
    let before : length all - ENDING_SIZE ≡ length front = omega (arith, whole) in
    let long : nat_lt ENDING_SIZE (length all) ≡ true = lt-ltb 8 (length all) (omega (arith, whole, some)) in
    let end : is_ending (drop (length all - ENDING_SIZE) all) ≡ true =
    ap (λ (n : ℕ). is_ending (drop n all)) before ∙ ap is_ending (drop-append_seam front back) ∙ is in
    let stem : take (length all - ENDING_SIZE) all ≡ front = ap (λ (n : ℕ). take n all) before ∙ take-append_seam front back in
    ap (λ (b : Bool). if b && is_ending (drop (length all - ENDING_SIZE) all) then take (length all - ENDING_SIZE) all ++ ending_text track else other_path all track) long
    ∙ ap (λ (b : Bool). if b then take (length all - ENDING_SIZE) all ++ ending_text track else other_path all track) end
    ∙ ap (λ (bytes : List ℕ). bytes ++ ending_text track) stem

by_file : (name front : List ℕ) (track : TrackId) → IsNamed track → IsNameOfFile name front → path_text name track ≡ front ++ ending_of track.cylinder track.head
by_file name front track named is =
    ap (λ (bytes : List ℕ). path_text bytes track) is.is
    ∙ split front (ending is.tens is.ones is.head) track (some_bytes front is.some) refl (told is.tens is.ones is.head is.tens_few is.ones_few is.head_few)
    ∙ ap (λ (bytes : List ℕ). front ++ bytes) (ending_is track named)

long_name : (name : List ℕ) → names_file name ≡ true → 8 < length name
unfolding names_file
long_name name is = by (nat_lt ENDING_SIZE (length name)) refl is
  where
    by : (long : Bool) → nat_lt ENDING_SIZE (length name) ≡ long → (long && is_ending (drop (length name - ENDING_SIZE) name)) ≡ true → 8 < length name
    by true long is = ltb-true 8 (length name) long
    by false long is = absurd (never is)
      where
        never : false ≡ true → ⊥
        never is = cc

stem : (name : List ℕ) (track : TrackId) → names_file name ≡ true → path_text name track ≡ take (length name - ENDING_SIZE) name ++ ending_text track
unfolding path_text
stem name track is = ap (λ (b : Bool). if b then take (length name - ENDING_SIZE) name ++ ending_text track else other_path name track) is

folder : (name : List ℕ) (track : TrackId) → names_file name ≡ false → is_scp name ≡ false → path_text name track ≡ folder_path name track
unfolding path_text
folder name track is other =
    ap (λ (b : Bool). if b then take (length name - ENDING_SIZE) name ++ ending_text track else other_path name track) is
    ∙ ap (λ (b : Bool). if b then name else folder_path name track) other

-- the bytes that end an SCP file's name
abbrev scp_end : List ℕ
scp_end = 46 ∷ 115 ∷ 99 ∷ 112 ∷ []

small : (byte letter : ℕ) → (byte ≡ letter) ⊎ (byte ≡ letter + 32) → 65 ≤ letter → letter < 91 → to_ascii_lowercase byte ≡ letter + 32
small byte letter (inl great) low high = (let is : cond (nat_lt byte 65) byte (cond (nat_lt byte 91) (byte + 32) byte) ≡ byte + 32 = grind (arith, nat_tests, great, low, high) in is ∙ ap (λ (n : ℕ). n + 32) great)
small byte letter (inr is) low high = (let stays : cond (nat_lt byte 65) byte (cond (nat_lt byte 91) (byte + 32) byte) ≡ byte = grind (arith, nat_tests, is, low, high) in stays ∙ is)

told_scp : (name : List ℕ) → IsNameOfScp name → is_scp name ≡ true
unfolding is_scp
told_scp name it =
    let back : List ℕ = 46 ∷ it.first ∷ it.second ∷ it.third ∷ [] in
    let whole : length name ≡ length it.front + 4 = ap length it.is ∙ length-append it.front back in
    let before : length name - 4 ≡ length it.front = omega (arith, whole) in
    let some = some_bytes it.front it.some in
    let long : nat_lt 4 (length name) ≡ true = lt-ltb 4 (length name) (omega (arith, whole, some)) in
    let end : drop (length name - 4) name ≡ back = ap (λ (n : ℕ). drop n name) before ∙ ap (drop (length it.front)) it.is ∙ drop-append_seam it.front back in
    let lower : map to_ascii_lowercase back ≡ scp_end =
    ap (λ (b : ℕ). 46 ∷ b ∷ to_ascii_lowercase it.second ∷ to_ascii_lowercase it.third ∷ []) (small it.first 83 it.an_s (omega arith) (omega arith))
    ∙ ap (λ (b : ℕ). 46 ∷ 115 ∷ b ∷ to_ascii_lowercase it.third ∷ []) (small it.second 67 it.a_c (omega arith) (omega arith))
    ∙ ap (λ (b : ℕ). 46 ∷ 115 ∷ 99 ∷ b ∷ []) (small it.third 80 it.a_p (omega arith) (omega arith)) in
    ap (λ (b : Bool). b && str_eq_ignore_ascii_case (drop (length name - 4) name) (codes ".scp")) long
    ∙ ap (λ (bytes : List ℕ). str_eq_ignore_ascii_case bytes (codes ".scp")) end
    ∙ (bytes_eq-Decides (map to_ascii_lowercase back) scp_end).1 lower

-- a byte by its small letter
unlower : (byte small : ℕ) → to_ascii_lowercase byte ≡ small → (byte ≡ small) ⊎ ((byte + 32 ≡ small) × (65 ≤ byte))
unlower byte small is = by (nat_lt byte 65) refl (nat_lt byte 91) refl is
  where
    by : (a : Bool) → nat_lt byte 65 ≡ a → (b : Bool) → nat_lt byte 91 ≡ b → cond a byte (cond b (byte + 32) byte) ≡ small → (byte ≡ small) ⊎ ((byte + 32 ≡ small) × (65 ≤ byte))
    by true p b q is = inl is
    by false p true q is = inr (is, grind (arith, nat_tests, p))
    by false p false q is = inl is

letter : (byte great : ℕ) → to_ascii_lowercase byte ≡ great + 32 → (byte ≡ great) ⊎ (byte ≡ great + 32)
letter byte great is = by (unlower byte (great + 32) is)
  where
    by : (byte ≡ great + 32) ⊎ ((byte + 32 ≡ great + 32) × (65 ≤ byte)) → (byte ≡ great) ⊎ (byte ≡ great + 32)
    by (inl small) = inr small
    by (inr other) = (let same = other.0 in inl (omega (arith, same)))

point : (byte : ℕ) → to_ascii_lowercase byte ≡ 46 → byte ≡ 46
point byte is = by (unlower byte 46 is)
  where
    by : (byte ≡ 46) ⊎ ((byte + 32 ≡ 46) × (65 ≤ byte)) → byte ≡ 46
    by (inl same) = same
    by (inr other) = (let same = other.0 in let low = other.1 in absurd (omega (arith, same, low)))

-- a name that ends so
is_scp_name : (name front back : List ℕ) → front ≢ [] → name ≡ front ++ back → map to_ascii_lowercase back ≡ scp_end → IsNameOfScp name
is_scp_name name front (a ∷ b ∷ c ∷ d ∷ []) some is lower =
    let at : (i : ℕ) → slice_index (map to_ascii_lowercase (a ∷ b ∷ c ∷ d ∷ [])) i ≡ slice_index scp_end i = λ i. ap (λ (bytes : List ℕ). slice_index bytes i) lower in
    let dot = point a (at 0) in
    record {
      front = front;
      some = some;
      first = b;
      second = c;
      third = d;
      an_s = letter b 83 (at 1);
      a_c = letter c 67 (at 2);
      a_p = letter d 80 (at 3);
      is = is ∙ ap (λ (byte : ℕ). front ++ byte ∷ b ∷ c ∷ d ∷ []) dot;
    }
is_scp_name name front [] some is lower = absurd (let sizes : 0 ≡ 4 = ap (λ (bytes : List ℕ). length bytes) lower in omega (arith, sizes))
is_scp_name name front (a ∷ []) some is lower = absurd (let sizes : 1 ≡ 4 = ap (λ (bytes : List ℕ). length bytes) lower in omega (arith, sizes))
is_scp_name name front (a ∷ b ∷ []) some is lower = absurd (let sizes : 2 ≡ 4 = ap (λ (bytes : List ℕ). length bytes) lower in omega (arith, sizes))
is_scp_name name front (a ∷ b ∷ c ∷ []) some is lower = absurd (let sizes : 3 ≡ 4 = ap (λ (bytes : List ℕ). length bytes) lower in omega (arith, sizes))
is_scp_name name front (a ∷ b ∷ c ∷ d ∷ e ∷ rest) some is lower =
    absurd (let sizes : suc (suc (suc (suc (suc (length (map to_ascii_lowercase rest)))))) ≡ 4 = ap (λ (bytes : List ℕ). length bytes) lower in omega (arith, sizes))

scp_name : (name : List ℕ) → is_scp name ≡ true → IsNameOfScp name
unfolding is_scp
scp_name name is = by (nat_lt 4 (length name)) refl is
  where
    by : (long : Bool) → nat_lt 4 (length name) ≡ long → (long && str_eq_ignore_ascii_case (drop (length name - 4) name) (codes ".scp")) ≡ true → IsNameOfScp name
    by true long same =
        let more = ltb-true 4 (length name) long in
        let front : List ℕ = take (length name - 4) name in
        let size : length front ≡ length name - 4 = length-take-le (length name - 4) name (omega arith) in
        is_scp_name name front (drop (length name - 4) name)
        (λ none. (let zero : length front ≡ 0 = ap length none in absurd (omega (arith, zero, size, more))))
        (sym (take-append-drop (length name - 4) name))
        ((bytes_eq-Decides (map to_ascii_lowercase (drop (length name - 4) name)) scp_end).0 same)
    by false long same = absurd (never same)
      where
        never : false ≡ true → ⊥
        never is = cc

is_name : NamesAreFiles → (name : List ℕ) → names_file name ≡ true → IsNameOfFile name (take (length name - ENDING_SIZE) name)
is_name are name is =
    let one = are name is in
    let track : TrackId = one.0 in
    let cylinder = one.1.cylinder in
    let head = one.1.head in
    let long = long_name name is in
    let size : length (take (length name - ENDING_SIZE) name) ≡ length name - 8 = length-take-le (length name - ENDING_SIZE) name (omega arith) in
    record {
      some = λ none. (let zero : length (take (length name - ENDING_SIZE) name) ≡ 0 = ap length none in absurd (omega (arith, zero, size, long)));
      tens = track.cylinder / 10;
      ones = track.cylinder % 10;
      head = track.head;
      tens_few = omega (arith, cylinder);
      ones_few = omega arith;
      head_few = omega (arith, head);
      is = sym one.2 ∙ stem name track is ∙ ap (λ (bytes : List ℕ). take (length name - ENDING_SIZE) name ++ bytes) (ending_is track one.1);
    }

by_folder : NamesAreFiles → (name : List ℕ) (track : TrackId) → IsNamed track → ((front : List ℕ) → IsNameOfFile name front → ⊥) → (IsNameOfScp name → ⊥)
    → path_text name track ≡ path_in_folder name track.cylinder track.head
by_folder are name track named other no_scp = by (names_file name) refl (is_scp name) refl
  where
    by : (is : Bool) → names_file name ≡ is → (it : Bool) → is_scp name ≡ it → path_text name track ≡ path_in_folder name track.cylinder track.head
    by true is it scp = absurd (other (take (length name - ENDING_SIZE) name) (is_name are name is))
    by false is true scp = absurd (no_scp (scp_name name scp))
    by false is false scp = folder name track is scp ∙ in_folder name track named

pub paths : NamesAreFiles → ScpDumpsAreFiles → PathsAreStated
paths are whole = record {
  in_folder = in_folder;
  by_file = by_file;
  by_scp = λ name track it. whole name track (told_scp name it);
  by_folder = by_folder are;
}
