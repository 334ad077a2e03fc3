-- How often files failed, over several readings.
use Rattle.std.specs.Prelude.{◌||◌, cond, count_by, nat_lt}
use Rattle.std.specs.List.{list_any}
use Rattle.std.proofs.Common.{◌≡◌, ◌+◌, ℕ, Bool, true, false, List, [], ◌∷◌, Option, Some, None, inl, inr, arith, refl, sym, ap, ◌∙◌, subst}
use Rattle.std.proofs.lemmas.Bool.{cases_lt}
use Rattle.std.proofs.lemmas.Bool.Decides.{nat_tests}
use Rattle.std.proofs.lemmas.List.Sums.{sum_by-cons}
use Rattle.dump_reading.specs.Files.{CountsMany, ShelfNow, failed_more}
use Rattle.dump_reading.specs.Outcomes.{DumpDisk, FilesFailed}
use Rattle.dump_reading.specs.lemmas.Coming.{counts-both, failed-both, none-failed}
use Rattle.flux_base.specs.Counts.{FaultCounts}
use Rattle.flux_engine.specs.LoopProgress.{lost_count}
use Rattle.flux_engine.specs.Plans.{Seen}
use Rattle.scp_notes.specs.Dumps.{AreNoted, DumpNoted, failed_paths, has_failed}
use Rattle.track_shelf.specs.Told.{ShelfTold, with_failed}
use Rattle.disk_archive.specs.Finding.{FailedIf, FailedOften, FailedSome}

none_more : (failed : Option ℕ) → failed ≡ failed_more 0 failed
none_more None = refl
none_more (Some count) = refl

many-none : (counts : FaultCounts) → CountsMany 0 counts counts
many-none counts = record { later = omega arith; cause = λ some. absurd (omega (arith, some)); counted = none_more counts.failed }

-- none did, where nothing was read
pub none-often : (start : ShelfNow) → FailedOften 0 start start
none-often start = record { paths = []; told = none-failed start.told; counts = many-none start.counts }

pub none-if : (start : ShelfNow) → FailedIf false start start
none-if start = record { often = 0; shelf = none-often start; is = refl }

pub same-some : (start now : ShelfNow) → now ≡ start → FailedSome start now
same-some start now same = subst (λ (s : ShelfNow). FailedSome start s) (sym same) (0, none-often start)

-- some did, and then some more
pub often-then : (a b : ℕ) {start mid now : ShelfNow} → FailedOften a start mid → FailedOften b mid now → FailedOften (a + b) start now
often-then a b {start} {mid} {now} first after = record {
  paths = _;
  told = after.told ∙ ap (with_failed after.paths) first.told ∙ failed-both first.paths after.paths start.told;
  counts = counts-both a b first.counts after.counts;
}

pub some-then : {start mid now : ShelfNow} → FailedSome start mid → FailedSome mid now → FailedSome start now
some-then (a, first) (b, after) = (a + b, often-then a b first after)

pub or-lt : (a b : ℕ) → (nat_lt 0 a || nat_lt 0 b) ≡ nat_lt 0 (a + b)
or-lt a b =
    elim (cases_lt 0 a) [
      | inl some ↦ (
          let here : nat_lt 0 a ≡ true = grind (arith, nat_tests, some) in
          let both : nat_lt 0 (a + b) ≡ true = grind (arith, nat_tests, some) in
          ap (λ (t : Bool). t || nat_lt 0 b) here ∙ sym both
          )
      | inr none ↦ (
          let here : nat_lt 0 a ≡ false = grind (arith, nat_tests, none) in
          ap (λ (t : Bool). t || nat_lt 0 b) here ∙ ap (nat_lt 0) (omega (arith, none))
          )
    ]

pub if-then : (f g : Bool) {start mid now : ShelfNow} → FailedIf f start mid → FailedIf g mid now → FailedIf (f || g) start now
if-then f g first after = record {
  often = first.often + after.often;
  shelf = often-then first.often after.often first.shelf after.shelf;
  is = ap (λ (t : Bool). t || g) first.is ∙ ap (λ (t : Bool). nat_lt 0 first.often || t) after.is ∙ or-lt first.often after.often;
}

pub if-some : {f : Bool} {start now : ShelfNow} → FailedIf f start now → FailedSome start now
if-some is = (is.often, is.shelf)

-- the files of a disk's streams
pub of-files : (disk : DumpDisk) (start now : ShelfNow) (streams beside : List Seen) → FilesFailed disk start now streams beside → FailedOften (lost_count streams + lost_count beside) start now
of-files disk start now streams beside files = record { paths = _; told = files.told; counts = files.counts }

pub files-some : (disk : DumpDisk) (start now : ShelfNow) (streams beside : List Seen) → FilesFailed disk start now streams beside → FailedSome start now
files-some disk start now streams beside files = (lost_count streams + lost_count beside, of-files disk start now streams beside files)

pub files-if : (disk : DumpDisk) (start now : ShelfNow) (streams beside : List Seen) (lost : ℕ) → lost ≡ lost_count streams + lost_count beside → FilesFailed disk start now streams beside
    → FailedIf (nat_lt 0 lost) start now
files-if disk start now streams beside lost same files = record { often = _; shelf = of-files disk start now streams beside files; is = ap (nat_lt 0) same }

-- an SCP file that failed as it was noted
one-often : (b : Bool) → b ≡ nat_lt 0 (cond b 1 0)
one-often true = refl
one-often false = refl

any-often : {X : Type 0} (test : X → Bool) (xs : List X) → list_any test xs ≡ nat_lt 0 (count_by test xs)
any-often test [] = refl
any-often test (x ∷ xs) =
    ap (λ (t : Bool). t || list_any test xs) (one-often (test x))
    ∙ ap (λ (t : Bool). nat_lt 0 (cond (test x) 1 0) || t) (any-often test xs)
    ∙ or-lt (cond (test x) 1 0) (count_by test xs)
    ∙ ap (nat_lt 0) (sym (sum_by-cons (λ y. cond (test y) 1 0) x xs))

pub noted-if : (dumps : List (List ℕ)) (start now : ShelfNow) (noted : List DumpNoted) (failed : Bool) → AreNoted dumps start now noted → failed ≡ list_any has_failed noted
    → FailedIf failed start now
noted-if dumps start now noted failed are same = record {
  often = count_by has_failed noted;
  shelf = record { paths = failed_paths noted; told = are.told; counts = are.counts };
  is = same ∙ any-often has_failed noted;
}

-- files that fail are on the shelf still
pub same-files : (start mid : ShelfNow) → FailedSome start mid → mid.told.files ≡ start.told.files
same-files start mid (often, shelf) = ap (λ (t : ShelfTold). t.files) shelf.told
