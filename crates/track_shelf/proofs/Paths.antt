-- The paths of the files of dumps.
use Rattle.std.proofs.Common.{◌≡◌, ◌<◌, ◌≤◌, ◌+◌, ◌-◌, ◌*◌, ◌/◌, ◌%◌, ◌&&◌, ◌||◌, ◌==◌, ℕ, Bool, true, false, List, [], ◌∷◌, ◌++◌, length, take, drop, get_or, nat_lt, codes, decimal, arith, refl, sym, ◌∙◌, ap, subst, ◌^◌, append_assoc, length-append, length-take, if◌then◌else◌}
use Rattle.std.proofs.lemmas.Bool.Decides.{Decides-eqb, Decides-ltb, nat_tests}
use Rattle.std.proofs.lemmas.List.{drop-drop, take-append-drop}
use Rattle.std.proofs.lemmas.Slice.Eq.{bytes_eq-Decides}
use Rattle.std.proofs.Math.Seq.{drop-append_seam, take-append_seam}
use Rattle.std.proofs.lemmas.Fmt.{IsAscii-decimal, decimal_digit}
use Rattle.std.proofs.lemmas.Str.Ascii.{IsAscii-cons, IsAscii-nil}
use Rattle.std.proofs.lemmas.Str.{IsAscii-append, IsCharBoundary-at_seam, IsCharBoundary-start, IsUtf8-between, IsUtf8-from_ascii}
use Rattle.std.specs.List.{list_all}
use Rattle.std.specs.Str.{IsAscii, IsUtf8, bytes_eq, str_eq_ignore_ascii_case}
use Rattle.flux_base.specs.declared.track.TrackId.{TrackId}
use Rattle.sector_report.specs.Lines.{two_digits}
use Rattle.track_shelf.specs.Names.{ENDING_SIZE, FilesNameDumps, FolderPathsTell, IsNamed, NamesAreFiles, ScpDumpsAreFiles, ending_text, file_name_text, folder_path, is_digit, is_ending, is_scp, names_file, path_text}

-- the ending of a track's numbers, byte by byte
abbrev ending : (tens ones head : ℕ) → List ℕ
ending tens ones head = (48 + tens) ∷ (48 + ones) ∷ 46 ∷ (48 + head) ∷ codes ".raw"

two-is : (n : ℕ) → n < 100 → two_digits n ≡ (48 + n / 10) ∷ (48 + n % 10) ∷ []
unfolding two_digits
two-is n low =
    let tens : n / 10 < 10 = omega (arith, low) in
    let ones : n % 10 < 10 = omega arith in
    ap (λ d. d ++ decimal (n % 10)) (decimal_digit (n / 10) tens) ∙ ap (λ d. (48 + n / 10) ∷ d) (decimal_digit (n % 10) ones)

ending-is : (track : TrackId) → IsNamed track → ending_text track ≡ ending (track.cylinder / 10) (track.cylinder % 10) track.head
unfolding ending_text
ending-is track named =
    let low : track.head < 10 = omega (arith, named.head) in
    ap (λ (d : List ℕ). d ++ codes "." ++ decimal track.head ++ codes ".raw") (two-is track.cylinder named.cylinder)
    ∙ ap (λ (d : List ℕ). (48 + track.cylinder / 10) ∷ (48 + track.cylinder % 10) ∷ 46 ∷ (d ++ codes ".raw")) (decimal_digit track.head low)

ending-size : (track : TrackId) → IsNamed track → length (ending_text track) ≡ 8
ending-size track named = ap length (ending-is track named)

digit-is : (d : ℕ) → d < 10 → is_digit (48 + d) ≡ true
digit-is d low = grind (arith, nat_tests)

head-is : (h : ℕ) → h < 2 → (48 + h == 48 || 48 + h == 49) ≡ true
head-is h low = grind (arith, nat_tests)

ends : (track : TrackId) → IsNamed track → is_ending (ending_text track) ≡ true
unfolding is_ending
ends track named =
    let tens : track.cylinder / 10 < 10 = (let low = named.cylinder in omega arith) in
    let ones : track.cylinder % 10 < 10 = omega arith in
    ap is_ending (ending-is track named)
    ∙ ap (λ (b : Bool). b && (is_digit (48 + track.cylinder % 10) && (true && ((48 + track.head == 48 || 48 + track.head == 49) && true)))) (digit-is (track.cylinder / 10) tens)
    ∙ ap (λ (b : Bool). b && (true && ((48 + track.head == 48 || 48 + track.head == 49) && true))) (digit-is (track.cylinder % 10) ones)
    ∙ ap (λ (b : Bool). b && true) (head-is track.head named.head)

-- what stands before the ending of each file of a dump
record Stem (dump : List ℕ) : Type 0 where
  stem : List ℕ
  some : 0 < length stem
  is : (track : TrackId) → path_text dump track ≡ stem ++ ending_text track

false_true : false ≡ true → ⊥
false_true e = cc

both : (a b : Bool) → (a && b) ≡ true → (a ≡ true) × (b ≡ true)
both true b same = (refl, same)
both false b same = absurd (false_true same)

in-folder : (folder : List ℕ) (track : TrackId) → folder_path folder track ≡ (folder ++ codes "/track") ++ ending_text track
unfolding folder_path file_name_text
in-folder folder track =
    sym (append_assoc (folder ++ codes "/") (codes "track") (ending_text track))
    ∙ ap (λ (s : List ℕ). s ++ ending_text track) (append_assoc folder (codes "/") (codes "track"))

pub long-name : (dump : List ℕ) → names_file dump ≡ true → 8 < length dump
unfolding names_file
long-name dump named = (Decides-ltb 8 (length dump)).0 (both (nat_lt 8 (length dump)) (is_ending (drop (length dump - 8) dump)) named).0

-- the path in a dump that is not named by a file
abbrev other : (dump : List ℕ) → TrackId → List ℕ
other dump track = if is_scp dump then dump else folder_path dump track

stem-of : (dump : List ℕ) → (names_file dump ≡ false → is_scp dump ≡ false) → Stem dump
unfolding path_text
stem-of dump folder = by (names_file dump) refl
  where
    by : (b : Bool) → names_file dump ≡ b → Stem dump
    by true named =
        let front = take (length dump - ENDING_SIZE) dump in
        record {
          stem = front;
          some = (let long = long-name dump named in let size = length-take (length dump - 8) dump in omega (arith, long, size));
          is = λ track. ap (λ (b : Bool). if b then front ++ ending_text track else other dump track) named;
        }
    by false named = record {
      stem = dump ++ codes "/track";
      some = (let size = length-append dump (codes "/track") in omega (arith, size));
      is = λ track.
          ap (λ (b : Bool). if b then take (length dump - ENDING_SIZE) dump ++ ending_text track else other dump track) named
          ∙ ap (λ (b : Bool). if b then dump else folder_path dump track) (folder named) ∙ in-folder dump track;
    }

-- a path that ends like a track's
from-stem : (stem : List ℕ) (one track : TrackId) → 0 < length stem → IsNamed one → path_text (stem ++ ending_text one) track ≡ stem ++ ending_text track
unfolding path_text names_file
from-stem stem one track some named =
    let e = ending_text one in
    let size : length (stem ++ e) ≡ length stem + 8 = length-append stem e ∙ ap (λ n. length stem + n) (ending-size one named) in
    let before : length (stem ++ e) - ENDING_SIZE ≡ length stem = omega (arith, size) in
    let long : nat_lt ENDING_SIZE (length (stem ++ e)) ≡ true = (Decides-ltb 8 (length (stem ++ e))).1 (omega (arith, size, some)) in
    let end : is_ending (drop (length (stem ++ e) - ENDING_SIZE) (stem ++ e)) ≡ true =
    ap (λ n. is_ending (drop n (stem ++ e))) before ∙ ap is_ending (drop-append_seam stem e) ∙ ends one named in
    let front : take (length (stem ++ e) - ENDING_SIZE) (stem ++ e) ≡ stem = ap (λ n. take n (stem ++ e)) before ∙ take-append_seam stem e in
    ap (λ (b : Bool). if b && is_ending (drop (length (stem ++ e) - ENDING_SIZE) (stem ++ e)) then take (length (stem ++ e) - ENDING_SIZE) (stem ++ e) ++ ending_text track else other (stem ++ e) track) long
    ∙ ap (λ (b : Bool). if b then take (length (stem ++ e) - ENDING_SIZE) (stem ++ e) ++ ending_text track else other (stem ++ e) track) end
    ∙ ap (λ (s : List ℕ). s ++ ending_text track) front

-- the track of an ending
record Ended (bytes : List ℕ) : Type 0 where
  track : TrackId
  named : IsNamed track
  is : ending_text track ≡ bytes

digit-of : (byte : ℕ) → is_digit byte ≡ true → (48 ≤ byte) × (byte < 58)
digit-of byte digit = grind (arith, nat_tests)

head-of : (byte : ℕ) → (byte == 48 || byte == 49) ≡ true → (48 ≤ byte) × (byte < 50)
head-of byte head = grind (arith, nat_tests)

from : (tens ones point head : ℕ) (rest : List ℕ) → (48 ≤ tens) × (tens < 58) → (48 ≤ ones) × (ones < 58) → point ≡ 46
    → (48 ≤ head) × (head < 50) → rest ≡ codes ".raw" → Ended (tens ∷ ones ∷ point ∷ head ∷ rest)
from tens ones point head rest ten one dot side end =
    let track : TrackId = record { cylinder = (tens - 48) * 10 + (ones - 48); head = head - 48 } in
    let named : IsNamed track = record { cylinder = omega (arith, ten, one); head = omega (arith, side) } in
    let first : 48 + ((tens - 48) * 10 + (ones - 48)) / 10 ≡ tens = omega (arith, ten, one) in
    let second : 48 + ((tens - 48) * 10 + (ones - 48)) % 10 ≡ ones = omega (arith, ten, one) in
    let last : 48 + (head - 48) ≡ head = omega (arith, side) in
    record {
      track = track;
      named = named;
      is = ending-is track named
          ∙ ap (λ (b : ℕ). b ∷ (48 + ((tens - 48) * 10 + (ones - 48)) % 10) ∷ 46 ∷ (48 + (head - 48)) ∷ codes ".raw") first
          ∙ ap (λ (b : ℕ). tens ∷ b ∷ 46 ∷ (48 + (head - 48)) ∷ codes ".raw") second
          ∙ ap (λ (b : ℕ). tens ∷ ones ∷ 46 ∷ b ∷ codes ".raw") last
          ∙ ap (λ (b : ℕ). tens ∷ ones ∷ b ∷ head ∷ codes ".raw") (sym dot)
          ∙ ap (λ (bs : List ℕ). tens ∷ ones ∷ point ∷ head ∷ bs) (sym end);
    }

ended : (bytes : List ℕ) → is_ending bytes ≡ true → Ended bytes
unfolding is_ending
ended [] e = absurd (false_true e)
ended (a ∷ []) e = absurd (false_true e)
ended (a ∷ b ∷ []) e = absurd (false_true e)
ended (a ∷ b ∷ c ∷ []) e = absurd (false_true e)
ended (tens ∷ ones ∷ point ∷ head ∷ rest) e =
    let one = both (is_digit tens) (is_digit ones && (point == 46 && ((head == 48 || head == 49) && bytes_eq rest (codes ".raw")))) e in
    let two = both (is_digit ones) (point == 46 && ((head == 48 || head == 49) && bytes_eq rest (codes ".raw"))) one.1 in
    let three = both (point == 46) ((head == 48 || head == 49) && bytes_eq rest (codes ".raw")) two.1 in
    let four = both (head == 48 || head == 49) (bytes_eq rest (codes ".raw")) three.1 in
    from tens ones point head rest (digit-of tens one.0) (digit-of ones two.0) ((Decides-eqb point 46).0 three.0) (head-of head four.0)
    ((bytes_eq-Decides rest (codes ".raw")).0 four.1)

pub names-are-files : NamesAreFiles
unfolding path_text names_file
names-are-files dump named =
    let back = drop (length dump - ENDING_SIZE) dump in
    let e = ended back (both (nat_lt ENDING_SIZE (length dump)) (is_ending back) named).1 in (
      e.track,
      e.named,
      ap (λ (b : Bool). if b then take (length dump - ENDING_SIZE) dump ++ ending_text e.track else other dump e.track) named
          ∙ ap (λ (end : List ℕ). take (length dump - ENDING_SIZE) dump ++ end) e.is
          ∙ take-append-drop (length dump - ENDING_SIZE) dump,
    )

-- a name that ends with `.scp` does not end as that of a track's file
scp-ends : (dump : List ℕ) → names_file dump ≡ true → is_scp dump ≡ true → ⊥
unfolding names_file is_scp
scp-ends dump named scp =
    let back = drop (length dump - ENDING_SIZE) dump in
    let e = ended back (both (nat_lt ENDING_SIZE (length dump)) (is_ending back) named).1 in
    let long = long-name dump named in
    let seam : (length dump - 8) + 4 ≡ length dump - 4 = omega (arith, long) in
    let last : drop (length dump - 4) dump ≡ codes ".raw" =
    ap (λ n. drop n dump) (sym seam) ∙ sym (drop-drop 4 (length dump - 8) dump) ∙ ap (drop 4) (sym e.is ∙ ending-is e.track e.named) in
    let same = (both (nat_lt 4 (length dump)) (str_eq_ignore_ascii_case (drop (length dump - 4) dump) (codes ".scp")) scp).1 in
    false_true (ap (λ bytes. str_eq_ignore_ascii_case bytes (codes ".scp")) (sym last) ∙ same)

pub scp-dumps-are-files : ScpDumpsAreFiles
unfolding path_text
scp-dumps-are-files dump track scp =
    by (names_file dump) refl
  where
    by : (b : Bool) → names_file dump ≡ b → path_text dump track ≡ dump
    by true named = absurd (scp-ends dump named scp)
    by false named =
        ap (λ (b : Bool). if b then take (length dump - ENDING_SIZE) dump ++ ending_text track else other dump track) named
        ∙ ap (λ (b : Bool). if b then dump else folder_path dump track) scp

pub files-name-dumps : FilesNameDumps
files-name-dumps dump one track named = by (is_scp dump) refl
  where
    by : (b : Bool) → is_scp dump ≡ b → path_text (path_text dump one) track ≡ path_text dump track
    by true scp = ap (λ (d : List ℕ). path_text d track) (scp-dumps-are-files dump one scp)
    by false scp =
        let s = stem-of dump (λ _. scp) in
        ap (λ (d : List ℕ). path_text d track) (s.is one) ∙ from-stem s.stem one track s.some named ∙ sym (s.is track)

-- two texts with ends of one length
same-ends : (a a' b b' : List ℕ) → length b ≡ length b' → a ++ b ≡ a' ++ b' → (a ≡ a') × (b ≡ b')
same-ends a a' b b' sizes same =
    let size : length a ≡ length a' = (let whole = ap length same in omega (arith, whole, sizes, length-append a b, length-append a' b')) in (
      sym (take-append_seam a b) ∙ ap (take (length a)) same ∙ ap (λ n. take n (a' ++ b')) size ∙ take-append_seam a' b',
      sym (drop-append_seam a b) ∙ ap (drop (length a)) same ∙ ap (λ n. drop n (a' ++ b')) size ∙ drop-append_seam a' b',
    )

same-track : (track track' : TrackId) → IsNamed track → IsNamed track' → ending_text track ≡ ending_text track' → track ≡ track'
same-track track track' named named' same =
    let bytes = sym (ending-is track named) ∙ same ∙ ending-is track' named' in
    let tens : 48 + track.cylinder / 10 ≡ 48 + track'.cylinder / 10 = ap (λ (bs : List ℕ). get_or bs 0 0) bytes in
    let ones : 48 + track.cylinder % 10 ≡ 48 + track'.cylinder % 10 = ap (λ (bs : List ℕ). get_or bs 1 0) bytes in
    let heads : 48 + track.head ≡ 48 + track'.head = ap (λ (bs : List ℕ). get_or bs 3 0) bytes in
    let cylinder : track.cylinder ≡ track'.cylinder = omega (arith, tens, ones) in
    let head : track.head ≡ track'.head = omega (arith, heads) in
    ap (λ (c : ℕ). record { cylinder = c; head = track.head }) cylinder ∙ ap (λ (h : ℕ). record { cylinder = track'.cylinder; head = h }) head

pub folder-paths-tell : FolderPathsTell
folder-paths-tell folder folder' track track' named named' same =
    let sizes : length (ending_text track) ≡ length (ending_text track') = ending-size track named ∙ sym (ending-size track' named') in
    let parts = same-ends (folder ++ codes "/track") (folder' ++ codes "/track") (ending_text track) (ending_text track') sizes
    (sym (in-folder folder track) ∙ same ∙ in-folder folder' track') in
    ((same-ends folder folder' (codes "/track") (codes "/track") refl parts.0).0, same-track track track' named named' parts.1)

-- the texts are ASCII
ascii-all : (bs : List ℕ) → list_all (λ byte. nat_lt byte 128) bs ≡ true → IsAscii bs
ascii-all [] low = IsAscii-nil
ascii-all (byte ∷ bs) low =
    let here = both (nat_lt byte 128) (list_all (λ b. nat_lt b 128) bs) low in
    IsAscii-cons byte bs ((Decides-ltb byte 128).0 here.0) (ascii-all bs here.1)

ascii-two : (n : ℕ) → n < 2 ^ 64 → IsAscii (two_digits n)
unfolding two_digits
ascii-two n low = IsAscii-append (decimal (n / 10)) (decimal (n % 10)) (IsAscii-decimal (n / 10) (omega (arith, low))) (IsAscii-decimal (n % 10) (omega (arith, low)))

ascii-ending : (track : TrackId) → track.cylinder < 2 ^ 64 → track.head < 2 ^ 64 → IsAscii (ending_text track)
unfolding ending_text
ascii-ending track cylinder head =
    let two = two_digits track.cylinder in
    IsAscii-append (two ++ codes "." ++ decimal track.head) (codes ".raw")
    (IsAscii-append (two ++ codes ".") (decimal track.head)
    (IsAscii-append two (codes ".") (ascii-two track.cylinder cylinder) (ascii-all (codes ".") refl))
    (IsAscii-decimal track.head head))
    (ascii-all (codes ".raw") refl)

-- what a track adds to a path is a text
pub ending-text : (track : TrackId) → track.cylinder < 2 ^ 64 → track.head < 2 ^ 64 → IsUtf8 (ending_text track)
ending-text track cylinder head = IsUtf8-from_ascii (ending_text track) (ascii-ending track cylinder head)

pub folder-end-text : (track : TrackId) → track.cylinder < 2 ^ 64 → track.head < 2 ^ 64 → IsUtf8 (folder_path [] track)
unfolding folder_path file_name_text
folder-end-text track cylinder head =
    IsUtf8-from_ascii (folder_path [] track)
    (IsAscii-append (codes "/track") (ending_text track) (ascii-all (codes "/track") refl) (ascii-ending track cylinder head))

-- where a text goes on with a text, it is one up to there
pub front-text : (front back : List ℕ) → IsUtf8 back → IsUtf8 (front ++ back) → IsUtf8 front
front-text front back is_back is =
    let whole = front ++ back in
    let size : length whole ≡ length front + length back = length-append front back in
    let cut = IsUtf8-between whole 0 (length front) is (omega arith) (IsCharBoundary-start whole is) (IsCharBoundary-at_seam whole front back refl is_back) in
    let none : length front - 0 ≡ length front = omega arith in
    subst IsUtf8 (take-append_seam front back) (subst (λ (n : ℕ). IsUtf8 (take n whole)) none cut)
