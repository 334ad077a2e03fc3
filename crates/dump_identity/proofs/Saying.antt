-- What was held, read and written is what is said of the dump.
use Rattle.std.proofs.Common.{◌≡◌, ◌<◌, ◌≤◌, ◌+◌, ◌-◌, ℕ, zero, suc, Bool, true, false, List, [], ◌∷◌, ◌++◌, length, map, take, drop, ◌⊎◌, inl, inr, Option, None, Some, refl, sym, ap, subst, ◌∙◌, arith, length-append}
use Rattle.std.specs.Prelude.{All, ◌||◌, if◌then◌else◌, get_or, nat_eq, nat_lt, not}
use Rattle.std.specs.Option.{is_some}
use Rattle.std.specs.Io.KnownBytes.{Appends, Keeps}
use Rattle.std.specs.List.{list_any}
use Rattle.std.proofs.Math.Seq.{drop-append_seam, get_or-append-add, take-append_seam}
use Rattle.std.proofs.lemmas.Bool.Decides.{nat_tests}
use Rattle.std.proofs.lemmas.List.{get_or_append_left, get_or-map, length-map, map-append}
use Rattle.std.proofs.lemmas.List.Elements.{All-get_or, All-map}
use Rattle.flux_engine.specs.Answers.{AppendsAndPart}
use Rattle.flux_engine.specs.LoopProgress.{lost_count}
use Rattle.flux_engine.specs.Plans.{Seen, is_failed}
use Rattle.sector_report.specs.declared.dump_lines.Passed.{Passed}
use Rattle.track_shelf.specs.Files.{File}
use Rattle.track_shelf.specs.Told.{ShelfTold}
use Rattle.told_disks.specs.declared.disks.NumberedDisk.{NumberedDisk}
use Rattle.told_disks.specs.declared.foreign.ForeignDisk.{ForeignDisk}
use Rattle.dump_reading.specs.DumpStreams.{AreOfDumps}
use Rattle.dump_reading.specs.Files.{ShelfNow}
use Rattle.dump_reading.specs.Outcomes.{IsToldEmpty}
use Rattle.dump_tallies.specs.Files.{of_files}
use Rattle.dump_tallies.specs.Numbers.{passed_of}
use Rattle.dump_tallies.specs.Tallies.{AreTallied, TalliedDisk}
use Rattle.dump_turns.specs.Outcomes.{IsReachTold}
use Rattle.dump_turns.specs.Reaches.{IsReachOf}
use Rattle.dump_turns.specs.declared.reach.Reach.{Reach}
use Rattle.dump_numbers.specs.Found.{FindsDisks}
use Rattle.dump_numbers.specs.declared.finding.NumbersFound.{NumbersFound}
use Rattle.dump_identity.specs.Candidates.{by_numbers, by_reading, candidates}
use Rattle.dump_identity.specs.Findings.{IsEmptyAs, best_of, disk_as, identity_of}
use Rattle.dump_identity.specs.Lines.{end_text, lines_of}
use Rattle.dump_identity.specs.Outcomes.{AllCame, HasNoFiles, HasSomeFile, WroteIdentity, WroteIntoEnd, WroteIntoLine, came_for, candidates_by, files_for}
use Rattle.dump_identity.specs.Trials.{trial_of}
use Rattle.dump_identity.specs.declared.candidate.Candidate.{Candidate}
use Rattle.dump_identity.specs.declared.finding.Finding.{Finding}
use Rattle.dump_identity.specs.declared.identity.Identity.{Identity}
use Rattle.dump_identity.specs.inside.Outcomes.{AreAllNoted, AreHeld, CutEnd, CutLine, HaveRead, HaveReadBehind, HaveSaid, HaveTried, IsHeld, candidate_in}
use Rattle.dump_identity.proofs.Failures.{any-lost}

-- the disks of some candidates are theirs
pub of-trials : (cs : List Candidate) → map candidate_in (map trial_of cs) ≡ cs
of-trials [] = refl
of-trials (c ∷ cs) = ap (λ (r : List Candidate). c ∷ r) (of-trials cs)

-- of no disk before the reading did a file come
pub trials-fresh : (cs : List Candidate) → All (λ (d : TalliedDisk). d.tallies ≡ []) (map trial_of cs)
trials-fresh cs = All-map (λ (d : TalliedDisk). d.tallies ≡ []) trial_of cs (λ k c low. refl)

-- disks of the same candidates are as many
pub same-many : (old new : List TalliedDisk) → map candidate_in new ≡ map candidate_in old → length new ≡ length old
same-many old new same = sym (length-map new candidate_in) ∙ ap (λ (cs : List Candidate). length cs) same ∙ length-map old candidate_in

below-of : (k n : ℕ) → nat_lt k n ≡ true → k < n
below-of k n is = grind (arith, nat_tests, is)

past-of : (k n : ℕ) → nat_lt k n ≡ false → n ≤ k
past-of k n is = grind (arith, nat_tests, is)

-- equal lists are as long
pub same-length : {A : Type 0} {xs ys : List A} → xs ≡ ys → length xs ≡ length ys
same-length same = ap length same

-- as many disks written over some are these
pub all-over : (old new rest : List TalliedDisk) (n : ℕ) → map candidate_in new ≡ map candidate_in old → length old ≡ n → take n (new ++ rest) ≡ new
all-over old new rest n same many = ap (λ (k : ℕ). take k (new ++ rest)) (sym (same-many old new same ∙ many)) ∙ take-append_seam new rest

-- a disk of the same candidate is held alike
module _ (dump : List ℕ) (told : Option (List File)) where
  like : (old new : TalliedDisk) (held : Bool) → candidate_in new ≡ candidate_in old → IsHeld dump told old held → IsHeld dump told new held
  like old new true same is = subst (λ (c : Candidate). IsToldEmpty (disk_as dump c) told None) (sym same) is
  like old new false same is = subst (λ (c : Candidate). IsEmptyAs dump told c) (sym same) is

  all-like : (old new : List TalliedDisk) (held : List Bool) → map candidate_in new ≡ map candidate_in old → AreHeld dump told old held → AreHeld dump told new held
  all-like old new held same are = record {
    many = are.many ∙ sym (same-many old new same);
    each = λ k d b low.
        let many = same-many old new same in
        let below : k < length old = omega (arith, low, many) in
        like (get_or old k d) (get_or new k d) (get_or held k b)
        (sym (get_or-map candidate_in new k d (candidate_in d) low) ∙ ap (λ (cs : List Candidate). get_or cs k (candidate_in d)) same ∙ get_or-map candidate_in old k d (candidate_in d) below)
        (are.each k d b below);
  }

-- how far the files reach, where they are told
reach-told : (told : Option (List File)) (dump : List ℕ) (reach : Option Reach) → ((files : List File) → told ≡ Some files → IsReachOf files dump reach) → IsReachTold told dump reach
reach-told None dump reach of = tt
reach-told (Some files) dump reach of = of files refl

-- nothing was written
pub keeps-same : (written : Option (List ℕ)) → Keeps written written
keeps-same None = tt
keeps-same (Some bytes) = refl

not-both : true ≡ false → ⊥
not-both e = cc

module _ (told : Option (List File)) (dump bytes : List ℕ) (same : bytes ≡ dump) where
  abbrev Reached : Option Reach → Type 0
  Reached found = (files : List File) → told ≡ Some files → IsReachOf files bytes found

  reached-told : (found : Option Reach) → Reached found → IsReachTold told dump found
  reached-told found of = reach-told told dump found (λ files known. subst (λ (d : List ℕ). IsReachOf files d found) same (of files known))

  pub reach-none : (found : Option Reach) (none : Bool) → is_some found ≡ not none → none ≡ true → Reached found → HasNoFiles dump told
  reach-none None none is empty of = reached-told None of
  reach-none (Some reach) none is empty of = absurd (not-both (is ∙ ap not empty))

  pub reach-some : (found : Option Reach) (none : Bool) → is_some found ≡ not none → none ≡ false → Reached found → HasSomeFile dump told
  reach-some None none is some of = absurd (not-both (sym (is ∙ ap not some)))
  reach-some (Some reach) none is some of = (reach, reached-told (Some reach) of)

abbrev trials_told : List NumberedDisk → List TalliedDisk
trials_told told = map trial_of (map by_numbers told)

told-many : (told : List NumberedDisk) → length (trials_told told) ≡ length told
told-many told = length-map (map by_numbers told) trial_of ∙ length-map told by_numbers

-- of no disk behind those that were read did a file come
pub told-fresh : (told : List NumberedDisk) (named old : List TalliedDisk) (place : ℕ) → old ≡ named ++ trials_told told → place ≡ length named → All (λ (d : TalliedDisk). d.tallies ≡ []) (drop place old)
told-fresh told named old place old_is place_is =
    subst (All (λ (d : TalliedDisk). d.tallies ≡ [])) (sym (drop-named told named old place old_is place_is)) (trials-fresh (map by_numbers told))
  where
    drop-named : (ds : List NumberedDisk) (front all : List TalliedDisk) (n : ℕ) → all ≡ front ++ trials_told ds → n ≡ length front → drop n all ≡ trials_told ds
    drop-named ds front all n all_is n_is = ap (drop n) all_is ∙ ap (λ (k : ℕ). drop k (front ++ trials_told ds)) n_is ∙ drop-append_seam front (trials_told ds)

-- as many as were told are appended
pub pushed-many : (before now : List TalliedDisk) (told : List NumberedDisk) → now ≡ before ++ trials_told told → length now ≡ length before + length told
pushed-many before now told grew = ap (λ (ts : List TalliedDisk). length ts) grew ∙ length-append before (trials_told told) ∙ ap (λ (n : ℕ). length before + n) (told-many told)

-- as many disks written over some are as many
pub over-many : (first named rest items : List TalliedDisk) (n : ℕ) → map candidate_in named ≡ map candidate_in first → length first ≡ n → first ≡ items → length (take n (named ++ rest)) ≡ length items
over-many first named rest items n same len first_is =
    ap (λ (ds : List TalliedDisk). length ds) (all-over first named rest n same len) ∙ same-many first named same ∙ ap (λ (ds : List TalliedDisk). length ds) first_is

-- and those by numbers are appended to them
pub over-pushed : (first named rest now : List TalliedDisk) (n : ℕ) (told : List NumberedDisk) → map candidate_in named ≡ map candidate_in first → length first ≡ n → now ≡ take n (named ++ rest) ++ trials_told told
    → now ≡ named ++ trials_told told
over-pushed first named rest now n told same len grew = grew ∙ ap (λ (ds : List TalliedDisk). ds ++ trials_told told) (all-over first named rest n same len)

-- the named disks are as many as the candidates that have names
pub named-many : (first named : List TalliedDisk) → map candidate_in named ≡ map candidate_in first → first ≡ map trial_of candidates → length named ≡ length candidates
named-many first named same first_is = same-many first named same ∙ ap (λ (ds : List TalliedDisk). length ds) first_is ∙ length-map candidates trial_of

-- The files came as tracks of the named disks, and told disks by numbers; all came once more as tracks of these.
module _ (dump : List ℕ) (start between now : ShelfNow) (numbers : NumbersFound) (first named : List TalliedDisk) (passed : List (Option Passed)) (came : List Seen)
    (read : HaveRead dump start between first named passed 200 came) (finds : FindsDisks came numbers) (first_is : first ≡ map trial_of candidates) (told : List NumberedDisk)
    (told_is : told ≡ numbers.disks.items) (old : List TalliedDisk) (old_is : old ≡ named ++ trials_told told) (place : ℕ) (place_is : place ≡ length candidates) (new : List TalliedDisk)
    (again : List (Option Passed)) (b : HaveReadBehind dump between now place old new again) where
  -- the files stay as they were
  same-files : between.told.files ≡ start.told.files
  same-files = ap (λ (t : ShelfTold). t.files) read.have.told

  named_many : length named ≡ length candidates
  named_many = named-many first named read.noted.same first_is

  front : take place old ≡ named
  front = ap (take place) old_is ∙ ap (λ (k : ℕ). take k (named ++ trials_told told)) (place_is ∙ sym named_many) ∙ take-append_seam named (trials_told told)

  back : drop place old ≡ trials_told told
  back = ap (drop place) old_is ∙ ap (λ (k : ℕ). drop k (named ++ trials_told told)) (place_is ∙ sym named_many) ∙ drop-append_seam named (trials_told told)

  new_is : new ≡ named ++ b.behind
  new_is = b.are ∙ ap (λ (ds : List TalliedDisk). ds ++ b.behind) front

  -- the disks behind are still those by numbers
  behind_of : map candidate_in b.behind ≡ map candidate_in (trials_told told)
  behind_of = b.read.noted.same ∙ ap (map candidate_in) back

  of_both : map candidate_in new ≡ map candidate_in named ++ map candidate_in (trials_told told)
  of_both = ap (map candidate_in) new_is ∙ map-append candidate_in named b.behind ∙ ap (λ (cs : List Candidate). map candidate_in named ++ cs) behind_of

  same_old : map candidate_in new ≡ map candidate_in old
  same_old = of_both ∙ sym (map-append candidate_in named (trials_told told)) ∙ ap (map candidate_in) (sym old_is)

  of_all : map candidate_in new ≡ candidates_by numbers
  of_all =
      of_both ∙ ap (λ (cs : List Candidate). cs ++ map candidate_in (trials_told told)) (read.noted.same ∙ ap (map candidate_in) first_is ∙ of-trials candidates)
      ∙ ap (λ (cs : List Candidate). candidates ++ cs) (of-trials (map by_numbers told)) ∙ ap (λ (ds : List NumberedDisk). candidates ++ map by_numbers ds) told_is

  abbrev all_came : AllCame dump start now
  all_came = record {
    between = between;
    came = came;
    many = read.many;
    have = read.have;
    numbers = numbers;
    finds = finds;
    again = b.came;
    many_again = b.read.many ∙ ap (λ (ds : List TalliedDisk). files_for (length ds)) back ∙ ap files_for (told-many told) ∙ ap (λ (ds : List NumberedDisk). files_for (length ds)) told_is;
    have_again = b.read.have;
  }

  passed-by : (own : Bool) → (if own then passed else again) ≡ passed_of (if own then came else b.came)
  passed-by true = read.passed_are
  passed-by false = b.read.passed_are

  of-by : (own : Bool) → AreOfDumps (of_files dump) start.told.files (if own then came else b.came)
  of-by true = read.have.are
  of-by false = subst (λ (t : Option (List File)). AreOfDumps (of_files dump) t b.came) same-files b.read.have.are

  tallied-by : (own : Bool) (k : ℕ) (d : TalliedDisk) → nat_lt k (length candidates) ≡ own → k < length (named ++ b.behind) → AreTallied (get_or (named ++ b.behind) k d) (if own then came else b.came)
  tallied-by true k d is below =
      let low : k < length named = subst (λ (n : ℕ). k < n) (sym named_many) (below-of k (length candidates) is) in
      subst (λ (x : TalliedDisk). AreTallied x came) (sym (get_or_append_left named b.behind d k low)) (All-get_or (λ (x : TalliedDisk). AreTallied x came) named k d low read.noted.each)
  tallied-by false k d is below =
      let past : length candidates ≤ k = past-of k (length candidates) is in
      let at : k ≡ length named + (k - length named) = omega (arith, past, named_many) in
      let low : k - length named < length b.behind = omega (arith, past, named_many, below, length-append named b.behind) in
      subst (λ (x : TalliedDisk). AreTallied x b.came) (sym (ap (λ (n : ℕ). get_or (named ++ b.behind) n d) at ∙ get_or-append-add named b.behind (k - length named) d))
      (All-get_or (λ (x : TalliedDisk). AreTallied x b.came) b.behind (k - length named) d low b.read.noted.each)

  -- as many as there were are written over them
  pub have-tried : (held : List Bool) (seen : List TalliedDisk) → seen ≡ old → AreHeld dump between.told.files seen held → (rest : List TalliedDisk) (n : ℕ) → length old ≡ n
      → HaveTried dump start now passed again (take n (new ++ rest)) held numbers.foreign.items
  have-tried held seen seen_is are rest n len =
      let are_old = subst (λ (ds : List TalliedDisk). AreHeld dump between.told.files ds held) seen_is are in
      let are_new = all-like dump between.told.files old new held same_old are_old in
      subst (λ (ds : List TalliedDisk). HaveTried dump start now passed again ds held numbers.foreign.items) (sym (all-over old new rest n same_old len))
      (record {
        files = all_came;
        first_are = read.passed_are;
        again_are = b.read.passed_are;
        known = record {
          passed_are = λ k. passed-by (nat_lt k (length candidates));
          of = λ k. of-by (nat_lt k (length candidates));
          tallied = λ k d low.
              subst (λ (ds : List TalliedDisk). AreTallied (get_or ds k d) (came_for all_came k)) (sym new_is)
              (tallied-by (nat_lt k (length candidates)) k d refl (subst (λ (ds : List TalliedDisk). k < length ds) new_is low));
          held_are = subst (λ (t : Option (List File)). AreHeld dump t new held) same-files are_new;
        };
        of = of_all;
        foreign_are = refl;
      })

module _ (dump : List ℕ) (start now : ShelfNow) (passed again : List (Option Passed)) (disks : List TalliedDisk) (held : List Bool) (foreign : List ForeignDisk)
    (h : HaveTried dump start now passed again disks held foreign) where
  all-opened : (count : ℕ) → 0 < count → files_for count ≡ 200
  all-opened zero none = absurd (omega (arith, none))
  all-opened (suc n) some = refl

  -- all files came in the reading of each disk
  came-by : (own : Bool) (k : ℕ) → nat_lt k (length candidates) ≡ own → k < length disks → length (if own then h.files.came else h.files.again) ≡ 200
  came-by true k is low = h.files.many
  came-by false k is low =
      let past : length candidates ≤ k = past-of k (length candidates) is in
      let long : length disks ≡ length candidates + length h.files.numbers.disks.items =
      sym (length-map disks candidate_in) ∙ ap (λ (cs : List Candidate). length cs) h.of ∙ length-append candidates (map by_numbers h.files.numbers.disks.items)
      ∙ ap (λ (n : ℕ). length candidates + n) (length-map h.files.numbers.disks.items by_numbers) in
      h.files.many_again ∙ all-opened (length h.files.numbers.disks.items) (omega (arith, past, low, long))

  came-many : (k : ℕ) → k < length disks → length (came_for h.files k) ≡ 200
  came-many k low = came-by (nat_lt k (length candidates)) k refl low

  pub all-noted : AreAllNoted (by_reading passed again) disks held
  all-noted = record {
    passed_many = λ k low. ap (λ (ps : List (Option Passed)). length ps) (h.known.passed_are k) ∙ length-map (came_for h.files k) (λ (s : Seen). s.passed) ∙ came-many k low;
    tallies_many = λ k d low. (h.known.tallied k d low).many ∙ came-many k low;
    held_many = h.known.held_are.many;
  }

  either-lost : (list_any is_failed passed || list_any is_failed again) ≡ (nat_lt 0 (lost_count h.files.came) || nat_lt 0 (lost_count h.files.again))
  either-lost =
      ap (λ (ps : List (Option Passed)). list_any is_failed ps || list_any is_failed again) h.first_are
      ∙ ap (λ (ps : List (Option Passed)). list_any is_failed (passed_of h.files.came) || list_any is_failed ps) h.again_are
      ∙ ap (λ (x : Bool). x || list_any is_failed (passed_of h.files.again)) (any-lost h.files.came) ∙ ap (λ (x : Bool). nat_lt 0 (lost_count h.files.came) || x) (any-lost h.files.again)

  module _ (lines after : Option (List ℕ)) where
    -- all was written
    pub all-said : HasSomeFile dump start.told.files → (best : Option Finding) → HaveSaid dump start.told.files (came_for h.files) disks foreign lines after best
        → (failed other : Bool) (count : ℕ) → failed ≡ (list_any is_failed passed || list_any is_failed again) → length foreign ≡ count → other ≡ not (nat_eq count 0)
        → WroteIdentity dump start now lines after (record { best = best; failed = failed; foreign = other })
    all-said some best said failed other count failed_is count_is other_is = record {
      outcome = record {
        lines = lines_of said.findings ++ end_text h.files.numbers.foreign.items (best_of said.findings);
        identity = identity_of h.files.came h.files.again said.findings h.files.numbers.foreign.items;
      };
      is = record {
        some = some;
        files = h.files;
        findings = said.findings;
        all = record { all = said.of ∙ h.of; are = said.are };
        is = refl;
      };
      grew = subst (λ (ds : List ForeignDisk). Appends lines after (lines_of said.findings ++ end_text ds (best_of said.findings))) h.foreign_are said.grew;
      identity_is = ap (λ (o : Option Finding). let i : Identity = record { best = o; failed = failed; foreign = other } in i) said.best_is
          ∙ ap (λ (x : Bool). let i : Identity = record { best = best_of said.findings; failed = x; foreign = other } in i) (failed_is ∙ either-lost)
          ∙ ap (λ (x : Bool). let i : Identity = record { best = best_of said.findings; failed = nat_lt 0 (lost_count h.files.came) || nat_lt 0 (lost_count h.files.again); foreign = x } in i)
          (other_is ∙ ap (λ (n : ℕ). not (nat_eq n 0)) (sym count_is) ∙ ap (λ (ds : List ForeignDisk). not (nat_eq (length ds) 0)) h.foreign_are);
    }

    -- a part of a line was
    pub line-cut : CutLine dump start.told.files (came_for h.files) disks lines after ⊎ CutEnd dump start.told.files (came_for h.files) disks foreign lines after
        → WroteIntoLine dump start now lines after ⊎ WroteIntoEnd dump start now lines after
    line-cut (inl cut) = inl (record {
      files = h.files;
      findings = cut.findings;
      next = cut.next;
      first = record { behind = cut.behind; first = cut.of ∙ h.of; are = cut.are };
      grew = cut.grew;
    })
    line-cut (inr cut) = inr (record {
      files = h.files;
      findings = cut.findings;
      all = record { all = cut.of ∙ h.of; are = cut.are };
      grew = subst (λ (ds : List ForeignDisk). AppendsAndPart lines after (lines_of cut.findings) (end_text ds (best_of cut.findings))) h.foreign_are cut.grew;
    })
