-- What is counted of tracks, one after the other.
use Rattle.std.proofs.Common.{◌≡◌, ◌<◌, ◌≤◌, ◌+◌, ◌++◌, ◌||◌, ℕ, Bool, true, false, cond, List, [], ◌∷◌, get_or, length, map, nat_eq, refl, sym, ap, ◌∙◌, arith, append-nil, length-append}
use mir.Val.{bool_byte}
use Rattle.std.specs.Prelude.{count_by, flat_map, sum_by}
use Rattle.std.specs.List.{list_any, range_with_len}
use Rattle.std.proofs.lemmas.Bool.Decides.{nat_tests}
use Rattle.std.proofs.lemmas.List.Concat.{flat_map-append}
use Rattle.std.proofs.lemmas.List.Folds.{list_any-append}
use Rattle.std.proofs.lemmas.List.Sums.{sum_by-append, sum_by-cons, sum_by_push}
use Rattle.flux_engine.specs.declared.gathered_track.PassedStream.{PassedStream}
use Rattle.flux_engine.specs.lemmas.Pieces.{range-more}
use Rattle.std.proofs.lemmas.List.Elements.{Contains-get_or}
use Rattle.imd_records.specs.Choices.{AreRows}
use Rattle.imd_records.specs.Records.{AreKnown}
use Rattle.name_book.specs.Book.{NamesKnown}
use Rattle.name_book.specs.Names.{NameTold}
use Rattle.imd_image.specs.Found.{TrackFound, sectors_in}
use Rattle.imd_image.specs.Totals.{all_passed, all_sectors, has_elsewhere, has_map, has_record, is_named_behind, left_in, totals_of}
use Rattle.imd_image.specs.declared.tally.Cause.{Cause}
use Rattle.imd_image.specs.declared.tally.Cause.TheVariants.{Absent, Failed, Refused}
use Rattle.imd_image.specs.declared.tally.State.{State}
use Rattle.imd_image.specs.declared.tally.State.TheVariants.{Bad, Contradictory, Deleted, Good}
use Rattle.imd_image.specs.declared.totals.ImdTotals.{ImdTotals}
use Rattle.imd_image.specs.inside.Counted.{is_for, is_of, plus, totals_in}

pub count_map : {X Y : Type 0} (p : Y → Bool) (f : X → Y) (xs : List X) → count_by p (map f xs) ≡ count_by (λ x. p (f x)) xs
count_map p f [] = refl
count_map {X} {Y} p f (x ∷ xs) =
    sum_by-cons (λ (y : Y). cond (p y) 1 0) (f x) (map f xs) ∙ ap (λ (n : ℕ). cond (p (f x)) 1 0 + n) (count_map p f xs)
    ∙ sym (sum_by-cons (λ (x : X). cond (p (f x)) 1 0) x xs)

-- one number more
pub count_next : (p : ℕ → Bool) (number : ℕ) → count_by p (range_with_len 0 (number + 1)) ≡ count_by p (range_with_len 0 number) + cond (p number) 1 0
count_next p number =
    let at : 0 + number ≡ number = omega arith in
    ap (count_by p) (range-more 0 number) ∙ sum_by_push (λ (k : ℕ). cond (p k) 1 0) (range_with_len 0 number) (0 + number)
    ∙ ap (λ (k : ℕ). count_by p (range_with_len 0 number) + cond (p k) 1 0) at

pub flat-push : {X Y : Type 0} (f : X → List Y) (xs : List X) (x : X) → flat_map f (xs ++ x ∷ []) ≡ flat_map f xs ++ f x
flat-push {Y = Y} f xs x = flat_map-append f xs (x ∷ []) ∙ ap (λ (ys : List Y). flat_map f xs ++ ys) (append-nil (f x))

any-push : {X : Type 0} (p : X → Bool) (xs : List X) (x : X) → list_any p (xs ++ x ∷ []) ≡ (list_any p xs || p x)
any-push p xs x = list_any-append p xs (x ∷ []) ∙ ap (λ (b : Bool). list_any p xs || b) (or_false (p x))
  where
    or_false : (b : Bool) → (b || false) ≡ b
    or_false true = refl
    or_false false = refl

abbrev totals : (tracks sectors good bad contradictory deleted left refused missing failed maps : ℕ) (behind elsewhere : Bool) → ImdTotals
totals tracks sectors good bad contradictory deleted left refused missing failed maps behind elsewhere = record {
  tracks = tracks;
  sectors = sectors;
  good = good;
  bad = bad;
  contradictory = contradictory;
  deleted = deleted;
  left = left;
  refused = refused;
  missing = missing;
  failed = failed;
  maps = maps;
  behind = behind;
  elsewhere = elsewhere;
}

module _ (founds : List TrackFound) (found : TrackFound) where
  abbrev more : List TrackFound
  more = founds ++ found ∷ []

  rows-more : (state : State) → count_by (is_of state) (all_sectors more) ≡ count_by (is_of state) (all_sectors founds) + count_by (is_of state) (sectors_in found)
  rows-more state =
      ap (count_by (is_of state)) (flat-push sectors_in founds found)
      ∙ sum_by-append (λ (told : NameTold). cond (is_of state told) 1 0) (all_sectors founds) (sectors_in found)

  passed-for : (cause : Cause) → count_by (is_for cause) (all_passed more) ≡ count_by (is_for cause) (all_passed founds) + count_by (is_for cause) found.passed
  passed-for cause =
      ap (count_by (is_for cause)) (flat-push (λ (f : TrackFound). f.passed) founds found)
      ∙ sum_by-append (λ (p : PassedStream). cond (is_for cause p) 1 0) (all_passed founds) found.passed

  sectors-more : length (all_sectors more) ≡ length (all_sectors founds) + length (sectors_in found)
  sectors-more = ap length (flat-push sectors_in founds found) ∙ length-append (all_sectors founds) (sectors_in found)

  -- one track more
  pub totals-more : totals_of (founds ++ found ∷ []) ≡ plus (totals_of founds) (totals_in found)
  totals-more =
      rw (
        sum_by_push (λ (f : TrackFound). cond (has_record f) 1 0) founds found,
        sectors-more,
        rows-more Good,
        rows-more Bad,
        rows-more Contradictory,
        rows-more Deleted,
        sum_by_push left_in founds found,
        passed-for Refused,
        passed-for Absent,
        passed-for Failed,
        sum_by_push (λ (f : TrackFound). cond (has_map f) 1 0) founds found,
        any-push is_named_behind founds found,
        any-push has_elsewhere founds found,
      ) refl

pub some-rows : (n : ℕ) → 0 < n → nat_eq n 0 ≡ false
some-rows n some = (let test : nat_eq n 0 ≡ false = grind (arith, nat_tests, some) in test)

-- a flag as a number
pub bit-is : (b : Bool) → bool_byte b ≡ cond b 1 0
bit-is true = refl
bit-is false = refl

pub one_most : (b : Bool) → cond b 1 0 ≤ 1
one_most true = omega arith
one_most false = omega arith

pub row_known : (known : NamesKnown) (rows : List ℕ) (k : ℕ) → AreKnown known rows → k < length rows → get_or rows k 0 < length known.told
row_known known rows k all below = all (get_or rows k 0) (Contains-get_or rows k 0 below)

-- the rows of a record are numbers of names
pub rows_known : (known : NamesKnown) (code : ℕ) (rows : List ℕ) → AreRows known code rows → AreKnown known rows
rows_known known code rows are = λ row has. ((are.each row).0 has).0
