-- The words of the formats.
use Rattle.std.specs.Prelude.{◌≡◌, ◌<◌, ◌≤◌, ◌++◌, ◌&&◌, ℕ, suc, ◌+◌, Bool, true, false, cond, not, drop, find, get_or, length, List, [], ◌∷◌, ◌≢◌, MatchOption, nat_eq, nat_le, option_map, slice_get, unwrap_or, Option, Some, None, refl}
use Rattle.std.specs.List.{list_all, position}
use Rattle.std.specs.Str.{bytes_eq}
use Rattle.std.proofs.Common.{ap, arith, inl, inr, lit≤, sym, subst, ◌∙◌}
use Rattle.std.proofs.Math.Seq.{drop-cons}
use Rattle.std.proofs.lemmas.Bool.{eqb-true, leb-true}
use Rattle.std.proofs.lemmas.List.Elements.{All-contains}
use Rattle.std.proofs.lemmas.List.Sums.{AllPass-from_list_all}
use Rattle.std.proofs.lemmas.Slice.Eq.{bytes_eq-Decides}
use Rattle.std.proofs.lemmas.Option.{slice_get-get_or}
use Rattle.ibm_disks.specs.Disks.{IsWordOfDisk, PrintedWordsNameDisks, WordsNameDisks}
use Rattle.ibm_disks.specs.Named.{NamedDisk, named_disks}
use Rattle.ibm_disks.specs.lemmas.WordLaws.{writes-begins}
use Rattle.ibm_disks.specs.Words.{begins_numbers, density_word, rate_word}
use Rattle.ibm_disks.specs.declared.disk.IbmDisk.{IbmDisk}
use Rattle.ibm_disks.specs.declared.rate.Rate.{Rate}
use Rattle.ibm_disks.specs.declared.rate.Rate.TheVariants.{Double, High, HighAt360, Single, SingleAt360}
use Rattle.sector_images.specs.Formats.{IsWordOfFormat, PrintedWordsNameFormats, WordsBeginWithLetters, WordsNameFormats, formats, has_row, row}
use Rattle.sector_images.specs.declared.format.Format.{Format}
use Rattle.sector_images.specs.declared.format.Format.TheVariants.{Ibm3740, Numbered}
use Rattle.sector_images.proofs.EachFormat.{each_row, number_of, rows}

-- the first of these rows with this word, by its number among them
abbrev named : List ℕ → Option ℕ
named word = position (λ f. bytes_eq (row f).word word) rows

abbrev is_number : Option ℕ → ℕ → Bool
is_number found number = unwrap_or (option_map (λ k. nat_eq k number) found) false

abbrev has_number : Format → Bool
has_number f = is_number (named (row f).word) (number_of f)

first_test : list_all has_number rows ≡ true
first_test = refl

one_number : (found : Option ℕ) (m n : ℕ) → is_number found m ≡ true → is_number found n ≡ true → m ≡ n
one_number None m n first second = absurd (cc)
one_number (Some k) m n first second = sym (eqb-true k m first) ∙ eqb-true k n second

number_below : (f : Format) → has_row f ≡ true → number_of f < length rows
number_below (Numbered disk) known = absurd (cc)
number_below f known = omega arith

read_at : (f : Format) → has_row f ≡ true → get_or rows (number_of f) f ≡ f
read_at (Numbered disk) known = absurd (cc)
read_at f known = refl

listed_at : (f : Format) → has_row f ≡ true → slice_get rows (number_of f) ≡ Some f
listed_at f known = slice_get-get_or rows (number_of f) f (number_below f known) ∙ ap Some (read_at f known)

some_same : (f g : Format) → Some f ≡ Some g → f ≡ g
some_same f g same = cc

-- no two rows have the same word
one_named : (f g : Format) → has_row f ≡ true → has_row g ≡ true → (row f).word ≡ (row g).word → f ≡ g
one_named f g first second same =
    let mine = each_row has_number first_test f first in
    let other = each_row has_number first_test g second in
    let number : number_of f ≡ number_of g =
    one_number (named (row f).word) (number_of f) (number_of g) mine
    (subst (λ (word : List ℕ). is_number (named word) (number_of g) ≡ true) (sym same) other) in
    some_same f g (sym (listed_at f first) ∙ ap (slice_get rows) number ∙ listed_at g second)

-- the word of a row is no disk's: it begins otherwise than those that write numbers, and is no name of one
all_both : (a b : Bool) → (a && b) ≡ true → (a ≡ true) × (b ≡ true)
all_both true b is = (refl, is)
all_both false b is = absurd (cc)

not_both : (b : Bool) → not b ≡ true → b ≡ true → ⊥
not_both b is_not is = cc

abbrev is_other : List ℕ → Bool
is_other word = not (begins_numbers word) && list_all (λ named. not (bytes_eq named.word word)) named_disks

others_test : list_all (λ f. is_other (row f).word) rows ≡ true
others_test = refl

no_disk : (word : List ℕ) (disk : IbmDisk) → is_other word ≡ true → ¬ IsWordOfDisk word disk
no_disk word disk other (inl is) =
    let none = (all_both (not (begins_numbers word)) (list_all (λ named. not (bytes_eq named.word word)) named_disks) other).1 in
    not_both (bytes_eq is.row.word word)
    (All-contains (λ (r : NamedDisk). not (bytes_eq r.word word) ≡ true) named_disks is.row (AllPass-from_list_all (λ named. not (bytes_eq named.word word)) named_disks none) is.listed)
    ((bytes_eq-Decides is.row.word word).1 is.word_is)
no_disk word disk other (inr is) =
    not_both (begins_numbers word) (all_both (not (begins_numbers word)) (list_all (λ named. not (bytes_eq named.word word)) named_disks) other).0 (writes-begins word disk is)

other_word : (word : List ℕ) (disk : IbmDisk) (f : Format) → has_row f ≡ true → IsWordOfDisk word disk → (row f).word ≡ word → ⊥
other_word word disk f known is same =
    no_disk word disk (subst (λ (w : List ℕ). is_other w ≡ true) same (each_row (λ g. is_other (row g).word) others_test f known)) is

-- a format that has a row has that word
pub by_name : (word : List ℕ) (f : Format) → has_row f ≡ true → (row f).word ≡ word → IsWordOfFormat word f
by_name word (Numbered disk) known is = absurd (cc)
by_name word f known is = is

with_name : (word : List ℕ) (f : Format) → has_row f ≡ true → (row f).word ≡ word → (g : Format) → IsWordOfFormat word g → f ≡ g
with_name word f known is (Numbered disk) other = absurd (other_word word disk f known other is)
with_name word f known is g other = one_named f g known refl (is ∙ sym other)

module _ (disks : WordsNameDisks) (word : List ℕ) where
  with_disk : (disk : IbmDisk) → IsWordOfDisk word disk → (g : Format) → IsWordOfFormat word g → Numbered disk ≡ g
  with_disk disk is (Numbered other) same = ap Numbered (disks word disk other is same)
  with_disk disk is g same = absurd (other_word word disk g refl is same)

  one_format : (f g : Format) → IsWordOfFormat word f → IsWordOfFormat word g → f ≡ g
  one_format (Numbered disk) g is other = with_disk disk is g other
  one_format f g is other = with_name word f refl is g other

pub words_name_formats : WordsNameDisks → WordsNameFormats
words_name_formats disks word f g is other = one_format disks word f g is other

-- and the word that is printed of a format names it
pub printed_words_name_formats : PrintedWordsNameDisks → PrintedWordsNameFormats
printed_words_name_formats disks word (Numbered disk) is = disks word disk is
printed_words_name_formats disks word f is = refl

-- each begins with a letter
letters_test : list_all (λ f. nat_le 97 (get_or (row f).word 0 0)) rows ≡ true
letters_test = refl

names_test : list_all (λ named. nat_le 97 (get_or named.word 0 0)) named_disks ≡ true
names_test = refl

rate_letter : (rate : Rate) (rest : List ℕ) → 97 ≤ get_or (density_word rate ++ 45 ∷ rest) 0 0
rate_letter Double rest = lit≤ tt
rate_letter High rest = lit≤ tt
rate_letter HighAt360 rest = lit≤ tt
rate_letter Single rest = lit≤ tt
rate_letter SingleAt360 rest = lit≤ tt

disk_letter : (word : List ℕ) (disk : IbmDisk) → IsWordOfDisk word disk → 97 ≤ get_or word 0 0
disk_letter word disk (inl is) =
    subst (λ (w : List ℕ). 97 ≤ get_or w 0 0) is.word_is
    (leb-true _ _ (All-contains (λ (r : NamedDisk). nat_le 97 (get_or r.word 0 0) ≡ true) named_disks is.row (AllPass-from_list_all (λ named. nat_le 97 (get_or named.word 0 0)) named_disks names_test) is.listed))
disk_letter word disk (inr is) =
    subst (λ (w : List ℕ). 97 ≤ get_or w 0 0) (sym is.written.is) (rate_letter is.numbers.rate (rate_word is.numbers.rate ++ 45 ∷ is.written.rest))

pub words_begin_with_letters : WordsBeginWithLetters
words_begin_with_letters word (Numbered disk) is = disk_letter word disk is
words_begin_with_letters word f is =
    subst (λ (w : List ℕ). 97 ≤ get_or w 0 0) is (leb-true _ _ (each_row (λ g. nat_le 97 (get_or (row g).word 0 0)) letters_test f refl))

-- what is found passes the test, and where nothing is found nothing passes
finds : (test : Format → Bool) (some : List Format) → MatchOption (find test some) (list_all (λ f. not (test f)) some ≡ true) (λ f. test f ≡ true)
finds test [] = refl
finds test (f ∷ others) = either (test f) refl (finds test others)
  where
    Finds : List Format → Type 0
    Finds some = MatchOption (find test some) (list_all (λ g. not (test g)) some ≡ true) (λ g. test g ≡ true)

    either : (is : Bool) → test f ≡ is → Finds others → Finds (f ∷ others)
    either true is later = rw is is
    either false is later = rw is later

abbrev pub has_word : List ℕ → Format → Bool
has_word word f = has_row f && bytes_eq (row f).word word

-- so it is the format of the word, or the word is no row's: the search through all formats passes those that have none
pub is_found : (word : List ℕ) → MatchOption (find (has_word word) formats) ((f : Format) → has_row f ≡ true → (row f).word ≢ word) (IsWordOfFormat word)
is_found word = by (find (has_word word) rows) (finds (has_word word) rows)
  where
    by : (o : Option Format) → MatchOption o (list_all (λ f. not (has_word word f)) rows ≡ true) (λ f. has_word word f ≡ true)
        → MatchOption o ((f : Format) → has_row f ≡ true → (row f).word ≢ word) (IsWordOfFormat word)
    by None none = λ f known same.
        not_both (has_word word f) (each_row (λ g. not (has_word word g)) none f known)
        (rw known ((bytes_eq-Decides (row f).word word).1 same))
    by (Some f) is =
        let parts = all_both (has_row f) (bytes_eq (row f).word word) is in
        by_name word f parts.0 ((bytes_eq-Decides (row f).word word).0 parts.1)

-- a word that is no row's and names no disk is none's
pub none_named : (word : List ℕ) → ((f : Format) → has_row f ≡ true → (row f).word ≢ word) → ((disk : IbmDisk) → ¬ IsWordOfDisk word disk)
    → (f : Format) → ¬ IsWordOfFormat word f
none_named word names disks (Numbered disk) is = disks disk is
none_named word names disks f is = names f refl is

pub found_or : (word : List ℕ) (o : Option Format) → ((f : Format) → has_row f ≡ true → (row f).word ≢ word)
    → MatchOption o ((disk : IbmDisk) → ¬ IsWordOfDisk word disk) (IsWordOfFormat word) → MatchOption o ((f : Format) → ¬ IsWordOfFormat word f) (IsWordOfFormat word)
found_or word None names disks = none_named word names disks
found_or word (Some f) names is = is

-- the search, from one format to the next
pub find-step : (test : Format → Bool) (some : List Format) (i : ℕ) (is : Bool) → i < length some → test (get_or some i Ibm3740) ≡ is
    → find test (drop i some) ≡ cond is (Some (get_or some i Ibm3740)) (find test (drop (i + 1) some))
find-step test some i is below tested =
    let here : Format = get_or some i Ibm3740 in
    let next : suc i ≡ i + 1 = omega arith in
    ap (find test) (drop-cons some i Ibm3740 below)
    ∙ ap (λ (b : Bool). cond b (Some here) (find test (drop (suc i) some))) tested
    ∙ ap (λ (n : ℕ). cond is (Some here) (find test (drop n some))) next
