-- Dumps that are looked at one after another.
use Rattle.std.proofs.Common.{◌≡◌, ◌<◌, ◌+◌, ◌++◌, ◌||◌, ℕ, zero, suc, Bool, true, false, cond, List, [], ◌∷◌, length, get_or, take, Option, Some, None, Result, Ok, Err, refl, sym, ap, subst, ◌∙◌, arith, append-nil, length-append}
use Rattle.std.proofs.KnownBytes.{Appends-nil}
use Rattle.std.proofs.lemmas.Grind.{flat_map-append}
use Rattle.std.proofs.lemmas.List.{map-append, map-id, take_more}
use Rattle.std.proofs.lemmas.List.Elements.{All-append}
use Rattle.std.proofs.lemmas.List.Folds.{list_any-append}
use Rattle.std.proofs.lemmas.List.FromFn.{map-range_with_len_more}
use Rattle.std.proofs.lemmas.List.Sums.{sum_by_push}
use Rattle.std.specs.List.{All, count_by, list_any, range_with_len}
use Rattle.std.specs.Option.{is_none}
use Rattle.dump_reading.specs.Files.{CountsMany, ShelfNow, failed_more}
use Rattle.dump_reading.specs.lemmas.Coming.{counts-more, failed-both, none-failed}
use Rattle.flux_base.specs.Moments.{Moment, Puts}
use Rattle.flux_base.specs.declared.outside.Failed.{Failed}
use Rattle.flux_base.specs.lemmas.Counting.{Counts-none}
use Rattle.flux_base.specs.lemmas.Parts.{Puts-then}
use Rattle.track_shelf.specs.Files.{File}
use Rattle.track_shelf.specs.Told.{ShelfTold, with_failed}
use Rattle.scp_notes.specs.Dumps.{AreNoted, AreNotesOf, AreOfFirst, DumpNoted, IsNoted, NotesDump, NotesDumps, failed_paths, has_failed, text_by, text_of, texts_of}
use Rattle.scp_notes.specs.inside.Noted.{HasNoted}

range-more : (n : ℕ) → range_with_len 0 (n + 1) ≡ range_with_len 0 n ++ n ∷ []
range-more n =
    sym (map-id (range_with_len 0 (n + 1))) ∙ map-range_with_len_more (λ (k : ℕ). k) 0 n n (omega arith)
    ∙ ap (λ (ks : List ℕ). ks ++ n ∷ []) (map-id (range_with_len 0 n))

abbrev number_of : DumpNoted → ℕ
number_of it = it.number

abbrev name_of : DumpNoted → List ℕ
name_of it = it.dump

abbrev path_of : DumpNoted → List (List ℕ)
path_of it = cond (has_failed it) (it.dump ∷ []) []

module _ {N : Type 0} (dumps : List (List ℕ)) (n : ℕ) (start now next : ShelfNow) (before between after : Moment N) (fails : Bool)
    (so_far : HasNoted dumps n start now before between fails) (below : n < length dumps) (answer : Result Bool Failed)
    (one : NotesDump n (get_or dumps n []) now next between after answer) where
  abbrev it : DumpNoted
  it = record { number = n; dump = get_or dumps n []; notes = one.notes }

  abbrev more : List DumpNoted
  more = so_far.noted ++ it ∷ []

  size-more : length more ≡ n + 1
  size-more = length-append so_far.noted (it ∷ []) ∙ ap (λ k. k + 1) so_far.size

  files-same : now.told.files ≡ start.told.files
  files-same = ap (λ (t : ShelfTold). t.files) so_far.are.told

  first-more : AreOfFirst dumps more
  first-more = record {
    numbers =
        map-append number_of so_far.noted (it ∷ [])
        ∙ ap (λ (ks : List ℕ). ks ++ n ∷ []) (so_far.are.first.numbers ∙ ap (range_with_len 0) so_far.size)
        ∙ sym (range-more n) ∙ ap (range_with_len 0) (sym size-more);
    names =
        map-append name_of so_far.noted (it ∷ [])
        ∙ ap (λ (ds : List (List ℕ)). ds ++ get_or dumps n [] ∷ []) (so_far.are.first.names ∙ ap (λ k. take k dumps) so_far.size)
        ∙ sym (take_more dumps n [] below) ∙ ap (λ k. take k dumps) (sym size-more);
  }

  one-is : All (IsNoted start.told.files) (it ∷ [])
  one-is zero d below = subst (λ (files : Option (List File)). AreNotesOf files it.dump it.notes) files-same one.are
  one-is (suc k) d below = absurd (omega (arith, below))

  noted-more : AreNoted dumps start next more
  noted-more = record {
    first = first-more;
    are = All-append (IsNoted start.told.files) so_far.noted (it ∷ []) so_far.are.are one-is;
    told = one.told ∙ ap (with_failed (path_of it)) so_far.are.told ∙ failed-both (failed_paths so_far.noted) (path_of it) start.told
        ∙ ap (λ (ps : List (List ℕ)). with_failed ps start.told)
        (ap (λ (ps : List (List ℕ)). failed_paths so_far.noted ++ ps) (sym (append-nil (path_of it)))
        ∙ sym (flat_map-append path_of so_far.noted (it ∷ [])));
    counts = subst (λ (k : ℕ). CountsMany k start.counts next.counts)
        (sym (sum_by_push (λ (d : DumpNoted). cond (has_failed d) 1 0) so_far.noted it))
        (counts-more (count_by has_failed so_far.noted) (is_none one.notes) start.counts now.counts next.counts so_far.are.counts one.counts);
  }

  texts-more : texts_of so_far.noted ++ text_by n one.notes ≡ texts_of more
  texts-more =
      ap (λ (t : List ℕ). texts_of so_far.noted ++ t) (sym (append-nil (text_by n one.notes)))
      ∙ sym (flat_map-append text_of so_far.noted (it ∷ []))

  puts-more : Puts before after (texts_of more) answer
  puts-more = subst (λ (t : List ℕ). Puts before after t answer) texts-more (Puts-then answer so_far.puts one.puts)

or_nil : (a b : Bool) → (a || b) ≡ (a || (b || false))
or_nil true b = refl
or_nil false true = refl
or_nil false false = refl

put-on : {N : Type 0} {before after : Moment N} {text : List ℕ} {b : Bool} → Puts {T = Bool} before after text (Ok b) → Puts {T = Unit {0}} before after text (Ok tt)
put-on p = record { ok = p.ok; err = tt; counts = p.counts }

module _ {N : Type 0} (dumps : List (List ℕ)) (n : ℕ) (start now next : ShelfNow) (before between after : Moment N) (fails : Bool)
    (so_far : HasNoted dumps n start now before between fails) (below : n < length dumps) where
  -- one more dump was looked at
  pub noted-next : (failed : Bool) → NotesDump n (get_or dumps n []) now next between after (Ok failed)
      → HasNoted dumps (n + 1) start next before after (fails || failed)
  noted-next failed one = record {
    noted = more dumps n start now next before between after fails so_far below (Ok failed) one;
    are = noted-more dumps n start now next before between after fails so_far below (Ok failed) one;
    size = size-more dumps n start now next before between after fails so_far below (Ok failed) one;
    puts = put-on (puts-more dumps n start now next before between after fails so_far below (Ok failed) one);
    fails_is =
        ap (λ (b : Bool). b || failed) so_far.fails_is ∙ ap (λ (b : Bool). list_any has_failed so_far.noted || b) one.fails
        ∙ or_nil (list_any has_failed so_far.noted) (is_none one.notes)
        ∙ sym (list_any-append has_failed so_far.noted (it dumps n start now next before between after fails so_far below (Ok failed) one ∷ []));
  }

  -- the notes failed inside its lines
  pub noted-stop : (failed : Failed) → NotesDump n (get_or dumps n []) now next between after (Err failed)
      → NotesDumps dumps start next before after (Err failed)
  noted-stop failed one = record {
    noted = more dumps n start now next before between after fails so_far below (Err failed) one;
    are = noted-more dumps n start now next before between after fails so_far below (Err failed) one;
    all = tt;
    puts = puts-more dumps n start now next before between after fails so_far below (Err failed) one;
    fails = tt;
  }

-- all were
pub noted-all : {N : Type 0} (dumps : List (List ℕ)) (n : ℕ) (start now : ShelfNow) (before after : Moment N) (fails : Bool)
    → HasNoted dumps n start now before after fails → n ≡ length dumps → NotesDumps dumps start now before after (Ok fails)
noted-all dumps n start now before after fails so_far all = record {
  noted = so_far.noted;
  are = so_far.are;
  all = so_far.size ∙ all;
  puts = record { ok = so_far.puts.ok; err = tt; counts = so_far.puts.counts };
  fails = so_far.fails_is;
}

-- none was yet
no-more : (failed : Option ℕ) → failed ≡ failed_more 0 failed
no-more None = refl
no-more (Some count) = refl

pub noted-none : {N : Type 0} (dumps : List (List ℕ)) (now : ShelfNow) (notes : Moment N) → HasNoted dumps 0 now now notes notes false
noted-none dumps now notes = record {
  noted = [];
  are = record {
    first = record { numbers = refl; names = refl };
    are = λ k d below. absurd (omega (arith, below));
    told = none-failed now.told;
    counts = record { later = omega arith; cause = λ some. absurd (omega (arith, some)); counted = no-more now.counts.failed };
  };
  size = refl;
  puts = record { ok = Appends-nil notes.bytes; err = tt; counts = Counts-none notes.counts };
  fails_is = refl;
}

-- a list has one item at a place, whatever stands for none
pub get-same : (xs : List (List ℕ)) (n : ℕ) (d e : List ℕ) → n < length xs → get_or xs n d ≡ get_or xs n e
get-same [] n d e below = absurd (omega (arith, below))
get-same (x ∷ xs) zero d e below = refl
get-same (x ∷ xs) (suc n) d e below = get-same xs n d e (omega (arith, below))
