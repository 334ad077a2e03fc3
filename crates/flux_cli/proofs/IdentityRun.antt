-- What `identify` did by what was said of the dump.
use Rattle.std.specs.Prelude.{if◌then◌else◌, ◌||◌, nat_lt}
use Rattle.std.proofs.Common.{◌≡◌, ◌+◌, ◌++◌, arith, ℕ, Bool, true, false, List, [], ◌∷◌, Option, Some, None, Result, Ok, Err, inl, inr, refl, sym, ap, ◌∙◌, subst}
use Rattle.dump_identity.specs.Findings.{identity_of, is_complete}
use Rattle.dump_identity.specs.Laws.{IdentitiesAreOne, NoFilesAreNoIdentity}
use Rattle.dump_identity.specs.Outcomes.{AllCame, Identified, SaysOfIdentity}
use Rattle.dump_identity.specs.declared.finding.Finding.{Finding}
use Rattle.dump_identity.specs.declared.identity.Identity.{Identity}
use Rattle.dump_reading.specs.Files.{CountsMany, ShelfNow}
use Rattle.dump_reading.specs.declared.fault.NoFiles.{NoFiles}
use Rattle.flux_engine.specs.declared.fault.Stopped.{Stopped}
use Rattle.flux_engine.specs.declared.fault.Stopped.TheVariants.{ReadFault, ImageFault, NotesFault, Refused}
use Rattle.dump_reading.specs.lemmas.Coming.{counts-both, failed-both}
use Rattle.track_shelf.specs.Told.{ShelfTold, with_failed}
use Rattle.flux_base.specs.declared.status.Status.TheVariants.{AllGood, NotAllGood, ShelfFault}
use Rattle.flux_engine.specs.LoopProgress.{lost_count}
use Rattle.track_shelf.specs.Files.{File}
use Rattle.flux_cli.proofs.EndingLaws.{IsDone}
use Rattle.flux_cli.proofs.Often.{FailsBy, fails-by, often-either, often-if}
use Rattle.flux_cli.proofs.ReadRun.{Failed, still-failed}
use Rattle.flux_cli.proofs.ShelfEnded.{Answers, kept-nothing, one-line, same-kept, same-nothing}
use Rattle.flux_cli.specs.Blamed.{FailsOften}
use Rattle.flux_cli.specs.IdentityRuns.{EmptyDump, FailedAsIdentified, IsOutcomeOfDump, best_status, identity_outcome, identity_status, identity_work, told_status}
use Rattle.flux_cli.specs.ShelfWork.{TellsEmpty, empty_outcome}
use Rattle.flux_cli.specs.Work.{Growth, Outcome}

-- whether files failed, and whether one disk explains all
pub identity-done : (identity : Identity) → IsDone (identity_status identity)
identity-done identity = by identity.failed identity.foreign identity.best
  where
    by_all : (b : Bool) → IsDone (if b then AllGood else NotAllGood)
    by_all true = tt
    by_all false = tt

    by : (failed foreign : Bool) (best : Option Finding) → IsDone (if failed then ShelfFault else if foreign then NotAllGood else best_status best)
    by true foreign best = tt
    by false true best = tt
    by false false None = tt
    by false false (Some best) = by_all (is_complete best)

best_often : (best : Option Finding) (often : ℕ) → often ≡ 0 → FailsOften (best_status best) often
best_often None often none = none
best_often (Some best) often none = often-either (is_complete best) often none

told_often : (foreign : Bool) (best : Option Finding) (often : ℕ) → often ≡ 0 → FailsOften (if foreign then NotAllGood else best_status best) often
told_often true best often none = none
told_often false best often none = best_often best often none

identity_often : (identity : Identity) (often : ℕ) → FailsBy identity.failed often → FailsOften (identity_status identity) often
identity_often identity often fails = often-if identity.failed (told_status identity) often fails (told_often identity.foreign identity.best often)

-- one of two readings fails
either-fails : (a : Bool) (often more : ℕ) → FailsBy a often → FailsBy (a || nat_lt 0 more) (often + more)
either-fails true often more some = omega (arith, some)
either-fails false often more none = subst (λ (n : ℕ). FailsBy (nat_lt 0 more) n) (omega (arith, none)) (fails-by more)

-- What the shelf did as all files came, once or twice: so many failed.
record Lost (dump : List ℕ) (start now : ShelfNow) (files : AllCame dump start now) : Type 0 where
  pub many : CountsMany (lost_count files.came + lost_count files.again) start.counts now.counts
  pub paths : List (List ℕ)
  pub told : now.told ≡ with_failed paths start.told

both-told : (start mid now : ShelfTold) (paths more : List (List ℕ)) → mid ≡ with_failed paths start → now ≡ with_failed more mid → now ≡ with_failed (paths ++ more) start
both-told start mid now paths more first second = second ∙ ap (with_failed more) first ∙ failed-both paths more start

module _ (dump : List ℕ) where
  both-lost : (start now : ShelfNow) (files : AllCame dump start now) → Lost dump start now files
  both-lost start now files = record {
    many = counts-both (lost_count files.came) (lost_count files.again) files.have.counts files.have_again.counts;
    paths = _;
    told = both-told start.told files.between.told now.told _ _ files.have.told files.have_again.told;
  }

  pub identity-failed : (start now : ShelfNow) (lines lines' : Option (List ℕ)) (answer : Result Identity (Stopped NoFiles)) → SaysOfIdentity dump start now lines lines' answer
      → Failed identity_status start now answer
  identity-failed start now lines lines' (Ok identity) says =
      let files = says.is.files in
      let lost = both-lost start now files in
      let often : ℕ = lost_count files.came + lost_count files.again in
      let is : Identity = identity_of files.came files.again says.is.findings files.numbers.foreign.items in
      let same : identity ≡ is = says.identity_is ∙ ap (λ (o : Identified). o.identity) says.is.is in
      record {
        often = often;
        fails = subst (λ (i : Identity). FailsOften (identity_status i) often) (sym same)
            (identity_often is often
            (either-fails (nat_lt 0 (lost_count files.came)) (lost_count files.came) (lost_count files.again) (fails-by (lost_count files.came))));
        many = lost.many;
        paths = lost.paths;
        told = lost.told;
      }
  identity-failed start now lines lines' (Err (Refused empty)) says = still-failed identity_status start now empty says.2
  identity-failed start now lines lines' (Err ReadFault) never = absurd never
  identity-failed start now lines lines' (Err ImageFault) says =
      elim says [
        | inl line ↦ (let lost = both-lost start now line.files in record { often = lost_count line.files.came + lost_count line.files.again; fails = tt; many = lost.many; paths = lost.paths; told = lost.told })
        | inr end ↦ (let lost = both-lost start now end.files in record { often = lost_count end.files.came + lost_count end.files.again; fails = tt; many = lost.many; paths = lost.paths; told = lost.told })
      ]
  identity-failed start now lines lines' (Err NotesFault) says = absurd says

pub identity-answers : (dump : List ℕ) (start now : ShelfNow) (image notes : Growth) (answer : Result Identity (Stopped NoFiles))
    → SaysOfIdentity dump start now image.before image.after answer → notes.after ≡ notes.before
    → Answers (identity_work dump) (dump ∷ []) start now image notes identity_status answer
identity-answers dump start now image notes (Ok identity) says same = record {
  outcome = identity_outcome says.outcome;
  is = inr (says.outcome, says.is, refl);
  same = ap identity_status says.identity_is;
  image_got = says.grew;
  notes_got = same-nothing notes.before notes.after same;
}
identity-answers dump start now image notes (Err (Refused empty)) says same = record {
  is = λ line tells. inl (line, said line tells, refl);
  image_got = kept-nothing image.before image.after says.3;
  same = same;
  cut = λ line tells after part. (line, said line tells, says.3, part);
}
  where
    said : (line : List ℕ) → TellsEmpty start.told.files (dump ∷ []) empty.dump line → EmptyDump dump start now line
    said line tells = record { is = says.1; still = says.2; tells = subst (λ (n : ℕ). TellsEmpty start.told.files (dump ∷ []) n line) says.0 tells }
identity-answers dump start now image notes (Err ReadFault) never same = absurd never
identity-answers dump start now image notes (Err ImageFault) says same = (says, same-kept notes.before notes.after same)
identity-answers dump start now image notes (Err NotesFault) says same = absurd says

-- the files, and which of them failed, decide the outcome of `identify`
module _ (one : IdentitiesAreOne) (apart : NoFilesAreNoIdentity) (dump : List ℕ) (files : List File) (start now start' now' : ShelfNow)
    (mine : start.told.files ≡ Some files) (others : start'.told.files ≡ Some files) where
  pub one_outcome_of_dump : (a b : Outcome) (p : IsOutcomeOfDump dump start now a) (q : IsOutcomeOfDump dump start' now' b)
      → FailedAsIdentified dump start now start' now' a b p q → a ≡ b
  one_outcome_of_dump a b (inl (line, p, is)) (inl (other, q, is')) alike =
      is ∙ ap empty_outcome (one-line (dump ∷ []) files 0 0 line other refl
      (subst (λ (t : Option (List File)). TellsEmpty t (dump ∷ []) 0 line) mine p.tells)
      (subst (λ (t : Option (List File)). TellsEmpty t (dump ∷ []) 0 other) others q.tells)) ∙ sym is'
  one_outcome_of_dump a b (inl (line, p, is)) (inr (i, said, is')) alike = absurd (apart dump files start start' now' mine others i p.is said)
  one_outcome_of_dump a b (inr (i, said, is)) (inl (line, q, is')) alike = absurd (apart dump files start' start now others mine i q.is said)
  one_outcome_of_dump a b (inr (i, said, is)) (inr (j, other, is')) alike =
      is ∙ ap identity_outcome (one dump files start now start' now' mine others i j said other alike.0 alike.1) ∙ sym is'
