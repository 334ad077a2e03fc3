-- The files, and which of them failed, decide what is said of a dump.
use Rattle.std.proofs.Common.{◌≡◌, ◌≤◌, ◌<◌, ◌⊎◌, ◌+◌, inl, inr, ℕ, zero, suc, true, false, Bool, List, [], ◌∷◌, ◌++◌, length, Option, None, Some, arith, refl, sym, ap, subst, ◌∙◌}
use Rattle.std.specs.Prelude.{if◌then◌else◌, ◌||◌, cond, nat_eq, nat_lt, not}
use Rattle.std.proofs.lemmas.Bool.{cases_lt}
use Rattle.std.proofs.lemmas.List.Sums.{sum_by-cons}
use Rattle.flux_engine.specs.LoopProgress.{lost_count, seen_at}
use Rattle.flux_engine.specs.Plans.{Seen, is_failed}
use Rattle.track_shelf.specs.Files.{File}
use Rattle.told_disks.specs.declared.disks.NumberedDisk.{NumberedDisk}
use Rattle.told_disks.specs.declared.foreign.ForeignDisk.{ForeignDisk}
use Rattle.dump_reading.specs.DumpStreams.{FailedAlike}
use Rattle.dump_reading.specs.Files.{ShelfNow}
use Rattle.dump_reading.specs.Outcomes.{DumpDisk, DumpsRead, IsDumpsRead}
use Rattle.dump_reading.specs.declared.totals.DumpTotals.{DumpTotals}
use Rattle.law_read_dumps.specs.Said.{DumpsAreOne}
use Rattle.dump_numbers.specs.Laws.{NumbersAreOne}
use Rattle.dump_identity.specs.Candidates.{candidates, candidates_with}
use Rattle.dump_identity.specs.Findings.{AreFindings, ComesTo, best_of, disk_as}
use Rattle.dump_identity.specs.Laws.{NoFilesAreNoIdentity}
use Rattle.dump_identity.specs.Lines.{end_text, lines_of}
use Rattle.dump_identity.specs.Outcomes.{HasNoFiles, HasSomeFile, Identified, IsIdentified, came_for, candidates_in, files_for}
use Rattle.dump_identity.specs.declared.candidate.Candidate.{Candidate}
use Rattle.dump_identity.specs.declared.finding.Finding.{Finding}

false-true : false ≡ true → ⊥
false-true same = cc

-- the candidates of two lists are the same one by one
module _ (f g : Finding) (fs gs : List Finding) where
  head : f.candidate ∷ candidates_in fs ≡ g.candidate ∷ candidates_in gs → f.candidate ≡ g.candidate
  head e = cc

  tail : f.candidate ∷ candidates_in fs ≡ g.candidate ∷ candidates_in gs → candidates_in fs ≡ candidates_in gs
  tail e = cc

no-first : (g : Finding) (gs : List Finding) → [] ≡ g.candidate ∷ candidates_in gs → ⊥
no-first g gs e = cc

no-second : (f : Finding) (fs : List Finding) → f.candidate ∷ candidates_in fs ≡ [] → ⊥
no-second f fs e = cc

abbrev fails : Seen → ℕ
fails s = cond (is_failed s.passed) 1 0

-- as many files failed where the same ones did
lost-alike : (a b : List Seen) → length a ≡ length b → FailedAlike a b → lost_count a ≡ lost_count b
lost-alike [] [] many alike = refl
lost-alike [] (y ∷ ys) many alike = absurd (omega (arith, many))
lost-alike (x ∷ xs) [] many alike = absurd (omega (arith, many))
lost-alike (x ∷ xs) (y ∷ ys) many alike =
    sum_by-cons fails x xs ∙ ap (λ (b : Bool). cond b 1 0 + lost_count xs) (alike 0 (omega arith) (omega arith))
    ∙ ap (λ (n : ℕ). fails y + n) (lost-alike xs ys (omega (arith, many)) (λ i low low'. alike (suc i) (omega (arith, low)) (omega (arith, low')))) ∙ sym (sum_by-cons fails y ys)

-- and so of the tracks that lie in them
selected-alike : (came came' : List Seen) (many : length came ≡ length came') (file : ℕ → ℕ) (a b : List Seen)
    → ((n : ℕ) → n < length a → seen_at a n ≡ seen_at came (file n)) → ((n : ℕ) → n < length b → seen_at b n ≡ seen_at came' (file n))
    → ((n : ℕ) → is_failed (seen_at came n).passed ≡ is_failed (seen_at came' n).passed) → FailedAlike a b
selected-alike came came' many file a b p q alike i low low' =
    ap (λ (s : Seen). is_failed s.passed) (p i low) ∙ alike (file i) ∙ sym (ap (λ (s : Seen). is_failed s.passed) (q i low'))

past-all : (xs : List Seen) (n : ℕ) → length xs ≤ n → is_failed (seen_at xs n).passed ≡ false
past-all [] n past = refl
past-all (x ∷ xs) zero past = absurd (omega (arith, past))
past-all (x ∷ xs) (suc n) past = past-all xs n (omega (arith, past))

-- at all places
everywhere : (a b : List Seen) → length a ≡ length b → FailedAlike a b → (n : ℕ) → is_failed (seen_at a n).passed ≡ is_failed (seen_at b n).passed
everywhere a b many alike n = by (cases_lt n (length a))
  where
    by : (n < length a) ⊎ (length a ≤ n) → is_failed (seen_at a n).passed ≡ is_failed (seen_at b n).passed
    by (inl low) = alike n low (omega (arith, low, many))
    by (inr past) = past-all a n past ∙ sym (past-all b n (omega (arith, past, many)))

module _ (dump : List ℕ) (files : List File) (one : DumpsAreOne) (told told' : Option (List File)) (first : told ≡ Some files) (second : told' ≡ Some files) where
  one-read : (disk : DumpDisk) (a b : DumpsRead) (p : IsDumpsRead disk told a) (q : IsDumpsRead disk told' b) → FailedAlike p.streams q.streams → FailedAlike p.beside.came q.beside.came → a ≡ b
  one-read disk a b =
      subst (λ (t : Option (List File)). (p : IsDumpsRead disk t a) (q : IsDumpsRead disk told' b) → FailedAlike p.streams q.streams → FailedAlike p.beside.came q.beside.came → a ≡ b) (sym first)
      (subst (λ (t : Option (List File)). (p : IsDumpsRead disk (Some files) a) (q : IsDumpsRead disk t b) → FailedAlike p.streams q.streams → FailedAlike p.beside.came q.beside.came → a ≡ b)
      (sym second) (dumps disk a b))
    where
      dumps : (d : DumpDisk) (x y : DumpsRead) (p : IsDumpsRead d (Some files) x) (q : IsDumpsRead d (Some files) y) → FailedAlike p.streams q.streams → FailedAlike p.beside.came q.beside.came → x ≡ y
      dumps d x y = one d files x y

  module _ (came came' : List Seen) (many : length came ≡ length came') (alike : FailedAlike came came') where
    one-totals : (candidate : Candidate) (a b : Option DumpTotals) → ComesTo dump told came candidate a → ComesTo dump told' came' candidate b → a ≡ b
    one-totals candidate None None x y = refl
    one-totals candidate None (Some s) x y = absurd (false-true (sym (x files first).0 ∙ y.some files second 0 (omega arith)))
    one-totals candidate (Some t) None x y = absurd (false-true (sym (y files second).0 ∙ x.some files first 0 (omega arith)))
    one-totals candidate (Some t) (Some s) x y =
        ap Some (x.numbers.totals_are ∙ ap (λ (o : DumpsRead). o.totals)
        (one-read (disk_as dump candidate) x.numbers.outcome y.numbers.outcome x.numbers.is y.numbers.is
        (selected-alike came came' many _ x.numbers.is.streams y.numbers.is.streams x.numbers.own y.numbers.own (everywhere came came' many alike))
        (selected-alike came came' many _ x.numbers.is.beside.came y.numbers.is.beside.came x.numbers.beside y.numbers.beside (everywhere came came' many alike))) ∙ sym y.numbers.totals_are)

    one-finding : (f g : Finding) → f.candidate ≡ g.candidate → ComesTo dump told came f.candidate f.totals → ComesTo dump told' came' g.candidate g.totals → f ≡ g
    one-finding f g same x y =
        ap (λ (t : Option DumpTotals). record f { totals = t }) (one-totals f.candidate f.totals g.totals x (subst (λ (c : Candidate). ComesTo dump told' came' c g.totals) (sym same) y))
        ∙ ap (λ (c : Candidate). record g { candidate = c }) same

  -- those of each reading
  pub one-findings : (came came' : ℕ → List Seen) → ((k : ℕ) → length (came k) ≡ length (came' k)) → ((k : ℕ) → FailedAlike (came k) (came' k)) → (fs gs : List Finding)
      → candidates_in fs ≡ candidates_in gs → AreFindings dump told came fs → AreFindings dump told' came' gs → fs ≡ gs
  one-findings came came' many alike [] [] same x y = refl
  one-findings came came' many alike [] (g ∷ gs) same x y = absurd (no-first g gs same)
  one-findings came came' many alike (f ∷ fs) [] same x y = absurd (no-second f fs same)
  one-findings came came' many alike (f ∷ fs) (g ∷ gs) same x y =
      ap (λ (h : Finding). h ∷ fs) (one-finding (came 0) (came' 0) (many 0) (alike 0) f g (head f g fs gs same) (x 0 f (omega arith)) (y 0 g (omega arith)))
      ∙ ap (λ (hs : List Finding). g ∷ hs)
      (one-findings (λ k. came (suc k)) (λ k. came' (suc k)) (λ k. many (suc k)) (λ k. alike (suc k)) fs gs (tail f g fs gs same) (λ k d low. x (suc k) d (omega (arith, low)))
      (λ k d low. y (suc k) d (omega (arith, low))))

-- two readings are alike where the first ones and the second ones are
reading-alike : (a b a' b' : List Seen) → FailedAlike a a' → FailedAlike b b' → (first : Bool) → FailedAlike (if first then a else b) (if first then a' else b')
reading-alike a b a' b' x y true = x
reading-alike a b a' b' x y false = y

reading-many : (a b a' b' : List Seen) → length a ≡ length a' → length b ≡ length b' → (first : Bool) → length (if first then a else b) ≡ length (if first then a' else b')
reading-many a b a' b' x y true = x
reading-many a b a' b' x y false = y

abbrev said : (lost again : ℕ) → List Finding → List ForeignDisk → Identified
said lost again findings foreign =
    record {
      lines = lines_of findings ++ end_text foreign (best_of findings);
      identity = record { best = best_of findings; failed = nat_lt 0 lost || nat_lt 0 again; foreign = not (nat_eq (length foreign) 0) };
    }

pub one-identity : (dump : List ℕ) (files : List File) → DumpsAreOne → NumbersAreOne → (start now start' now' : ShelfNow) → start.told.files ≡ Some files → start'.told.files ≡ Some files
    → (a b : Identified) (one : IsIdentified dump start now a) (other : IsIdentified dump start' now' b) → FailedAlike one.files.came other.files.came → FailedAlike one.files.again other.files.again → a ≡ b
one-identity dump files dumps numbers start now start' now' first second a b one other alike alike_again =
    one.is ∙ ap (λ (fs : List Finding). said (lost_count one.files.came) (lost_count one.files.again) fs one.files.numbers.foreign.items) findings
    ∙ ap (λ (ds : List ForeignDisk). said (lost_count one.files.came) (lost_count one.files.again) other.findings ds) disks.1
    ∙ ap (λ (n : ℕ). said n (lost_count one.files.again) other.findings other.files.numbers.foreign.items) (lost-alike one.files.came other.files.came many alike)
    ∙ ap (λ (n : ℕ). said (lost_count other.files.came) n other.findings other.files.numbers.foreign.items) (lost-alike one.files.again other.files.again many_again alike_again) ∙ sym other.is
  where
    many : length one.files.came ≡ length other.files.came
    many = one.files.many ∙ sym other.files.many

    -- the files tell the same disks by numbers
    disks : (one.files.numbers.disks.items ≡ other.files.numbers.disks.items) × (one.files.numbers.foreign.items ≡ other.files.numbers.foreign.items)
    disks =
        let all = one.files.many in
        let all' = other.files.many in
        numbers dump files start.told.files start'.told.files first second one.files.came other.files.came (omega (arith, all)) (omega (arith, all')) one.files.have.are other.files.have.are alike
        one.files.numbers other.files.numbers one.files.finds other.files.finds

    many_again : length one.files.again ≡ length other.files.again
    many_again = one.files.many_again ∙ ap (λ (ds : List NumberedDisk). files_for (length ds)) disks.0 ∙ sym other.files.many_again

    candidates_same : candidates_in one.findings ≡ candidates_in other.findings
    candidates_same = one.all.all ∙ ap candidates_with disks.0 ∙ sym other.all.all

    findings : one.findings ≡ other.findings
    findings =
        one-findings dump files dumps start.told.files start'.told.files first second (came_for one.files) (came_for other.files)
        (λ k. reading-many one.files.came one.files.again other.files.came other.files.again many many_again (nat_lt k (length candidates)))
        (λ k. reading-alike one.files.came one.files.again other.files.came other.files.again alike alike_again (nat_lt k (length candidates))) one.findings other.findings candidates_same
        one.all.are other.all.are

-- a dump without files has no file
none-some : (dump : List ℕ) (files : List File) (told told' : Option (List File)) → told ≡ Some files → told' ≡ Some files → HasNoFiles dump told → HasSomeFile dump told' → ⊥
none-some dump files told told' first second none some =
    let no : HasNoFiles dump (Some files) = subst (HasNoFiles dump) first none in
    let yes : HasSomeFile dump (Some files) = subst (HasSomeFile dump) second some in
    no yes.1.cylinder.0 yes.1.cylinder.1

pub no-identity : NoFilesAreNoIdentity
no-identity dump files start start' now' first second o none is = none-some dump files start.told.files start'.told.files first second none is.some
