-- What `info` did by what was said of the dump.
use Rattle.std.specs.Prelude.{cond, count_by, nat_lt}
use Rattle.std.proofs.lemmas.List.Sums.{sum_by-cons}
use Rattle.std.proofs.Common.{◌≡◌, ◌<◌, ◌+◌, ℕ, suc, Bool, List, [], ◌∷◌, length, Option, Some, None, Result, Ok, Err, inl, inr, refl, sym, ap, ◌∙◌, subst, arith}
use Rattle.dump_reading.specs.Files.{ShelfNow}
use Rattle.dump_reading.specs.declared.fault.NoFiles.{NoFiles}
use Rattle.dump_turns.specs.Files.{IsToldOf, found_at}
use Rattle.dump_turns.specs.Laws.{NoFilesAreNoTurns, TurnsAreOne}
use Rattle.dump_turns.specs.Lines.{has_failed}
use Rattle.dump_turns.specs.Outcomes.{IsReachTold, SaysOfTurns}
use Rattle.dump_turns.specs.declared.found.Found.{Found}
use Rattle.dump_turns.specs.declared.found.Found.TheVariants.{PassedOver, Read}
use Rattle.dump_turns.specs.declared.totals.TurnTotals.{TurnTotals}
use Rattle.flux_engine.specs.LoopProgress.{lost_count, seen_at}
use Rattle.flux_engine.specs.Plans.{Seen, is_failed}
use Rattle.flux_engine.specs.declared.fault.Stopped.{Stopped}
use Rattle.flux_engine.specs.declared.fault.Stopped.TheVariants.{ReadFault, ImageFault, NotesFault, Refused}
use Rattle.sector_report.specs.declared.dump_lines.Passed.{Passed}
use Rattle.sector_report.specs.declared.dump_lines.Passed.TheVariants.{Absent, Failed as HasFailed, Refused as IsRefused, RefusedScp}
use Rattle.track_shelf.specs.Files.{File}
use Rattle.flux_cli.proofs.EndingLaws.{IsDone, done-if}
use Rattle.flux_cli.proofs.Often.{fails-by, often-either, often-if}
use Rattle.flux_cli.proofs.ReadRun.{Failed, still-failed}
use Rattle.flux_cli.proofs.ShelfEnded.{Answers, kept-nothing, one-line, same-kept, same-nothing}
use Rattle.flux_cli.specs.Blamed.{FailsOften}
use Rattle.flux_cli.specs.InfoRuns.{AllFound, EmptyInfo, FailedAsTold, IsOutcomeOfInfo, are_even, found_outcome, info_outcome, info_status, info_work}
use Rattle.flux_cli.specs.ShelfWork.{TellsEmpty, empty_outcome}
use Rattle.flux_cli.specs.Work.{Growth, Outcome}

-- whether files failed, and whether all are even
pub info-done : (totals : TurnTotals) → IsDone (info_status totals)
info-done totals = done-if (nat_lt 0 totals.failed) (are_even totals)

info_often : (totals : TurnTotals) (often : ℕ) → totals.failed ≡ often → FailsOften (info_status totals) often
info_often totals often same =
    subst (FailsOften (info_status totals)) same
    (often-if (nat_lt 0 totals.failed) _ totals.failed (fails-by totals.failed) (λ none. often-either (are_even totals) totals.failed none))

-- the files are told as failed that failed
same_fault : (why : Passed) → has_failed (PassedOver why) ≡ is_failed (Some why)
same_fault Absent = refl
same_fault HasFailed = refl
same_fault (IsRefused block fault) = refl
same_fault (RefusedScp fault) = refl

one_failed : (seen : Seen) (found : Found) → IsToldOf seen found → has_failed found ≡ is_failed seen.passed
one_failed seen (PassedOver why) told = same_fault why ∙ sym (ap is_failed told)
one_failed seen (Read turns) told = sym (ap is_failed told.0)

failed_many : (came : List Seen) (founds : List Found) → length came ≡ length founds → ((n : ℕ) → n < length founds → IsToldOf (seen_at came n) (found_at founds n))
    → count_by has_failed founds ≡ lost_count came
failed_many [] [] many told = refl
failed_many [] (found ∷ founds) many told = absurd (omega (arith, many))
failed_many (seen ∷ came) [] many told = absurd (omega (arith, many))
failed_many (seen ∷ came) (found ∷ founds) many told =
    let first : has_failed found ≡ is_failed seen.passed = one_failed seen found (told 0 (omega arith)) in
    let rest : count_by has_failed founds ≡ lost_count came = failed_many came founds (omega (arith, many)) (λ n less. told (suc n) (omega (arith, less))) in
    sum_by-cons (λ (f : Found). cond (has_failed f) 1 0) found founds
    ∙ ap (λ (b : Bool). cond b 1 0 + count_by has_failed founds) first ∙ ap (λ (n : ℕ). cond (is_failed seen.passed) 1 0 + n) rest
    ∙ sym (sum_by-cons (λ (s : Seen). cond (is_failed s.passed) 1 0) seen came)

module _ (dump : List ℕ) (start now : ShelfNow) where
  pub info-failed : (lines lines' : Option (List ℕ)) (answer : Result TurnTotals (Stopped NoFiles)) → SaysOfTurns dump start now lines lines' answer
      → Failed info_status start now answer
  info-failed lines lines' (Ok totals) says =
      let are = says.all.found.are in
      record {
        often = lost_count are.came;
        fails = info_often totals (lost_count are.came) (ap (λ (t : TurnTotals). t.failed) says.totals_are ∙ failed_many are.came says.founds are.many are.told);
        many = are.have.counts;
        paths = _;
        told = are.have.told;
      }
  info-failed lines lines' (Err (Refused empty)) says = still-failed info_status start now empty says.2
  info-failed lines lines' (Err ReadFault) never = absurd never
  info-failed lines lines' (Err ImageFault) says =
      elim says [
        | inl file ↦ record { often = _; fails = tt; many = file.found.are.have.counts; paths = _; told = file.found.are.have.told }
        | inr end ↦ record { often = _; fails = tt; many = end.all.found.are.have.counts; paths = _; told = end.all.found.are.have.told }
      ]
  info-failed lines lines' (Err NotesFault) says = absurd says

  pub info-answers : (image notes : Growth) (answer : Result TurnTotals (Stopped NoFiles)) → SaysOfTurns dump start now image.before image.after answer → notes.after ≡ notes.before
      → Answers (info_work dump) (dump ∷ []) start now image notes info_status answer
  info-answers image notes (Ok totals) says same =
      let found : AllFound dump start now = record { reach = says.reach; founds = says.founds; spread = says.spread; all = says.all } in
      record {
        outcome = found_outcome found;
        is = inr (found, refl);
        same = ap info_status says.totals_are;
        image_got = says.grew;
        notes_got = same-nothing notes.before notes.after same;
      }
  info-answers image notes (Err (Refused empty)) says same = record {
    is = λ line tells. inl (line, said line tells, refl);
    image_got = kept-nothing image.before image.after says.3;
    same = same;
    cut = λ line tells after part. (line, said line tells, says.3, part);
  }
    where
      said : (line : List ℕ) → TellsEmpty start.told.files (dump ∷ []) empty.dump line → EmptyInfo dump start now line
      said line tells = record { is = says.1; still = says.2; tells = subst (λ (n : ℕ). TellsEmpty start.told.files (dump ∷ []) n line) says.0 tells }
  info-answers image notes (Err ReadFault) never same = absurd never
  info-answers image notes (Err ImageFault) says same = (says, same-kept notes.before notes.after same)
  info-answers image notes (Err NotesFault) says same = absurd says

-- the files, and which of them failed, decide the outcome of `info`
module _ (one : TurnsAreOne) (apart : NoFilesAreNoTurns) (dump : List ℕ) (files : List File) (start now start' now' : ShelfNow)
    (mine : start.told.files ≡ Some files) (others : start'.told.files ≡ Some files) where
  none_or_all : (begin end : ShelfNow) → begin.told.files ≡ Some files → AllFound dump begin end → (told : Option (List File)) → told ≡ Some files → IsReachTold told dump None → ⊥
  none_or_all begin end told_is found told same none =
      apart dump files begin end told_is found.reach found.founds found.spread found.all (subst (λ (t : Option (List File)). IsReachTold t dump None) same none)

  pub one_outcome_of_info : (a b : Outcome) (p : IsOutcomeOfInfo dump start now a) (q : IsOutcomeOfInfo dump start' now' b)
      → FailedAsTold dump start now start' now' a b p q → a ≡ b
  one_outcome_of_info a b (inl (line, p, is)) (inl (other, q, is')) alike =
      is ∙ ap empty_outcome (one-line (dump ∷ []) files 0 0 line other refl
      (subst (λ (t : Option (List File)). TellsEmpty t (dump ∷ []) 0 line) mine p.tells)
      (subst (λ (t : Option (List File)). TellsEmpty t (dump ∷ []) 0 other) others q.tells)) ∙ sym is'
  one_outcome_of_info a b (inl (line, p, is)) (inr (found, is')) alike = absurd (none_or_all start' now' others found start.told.files mine p.is)
  one_outcome_of_info a b (inr (found, is)) (inl (line, q, is')) alike = absurd (none_or_all start now mine found start'.told.files others q.is)
  one_outcome_of_info a b (inr (found, is)) (inr (other, is')) alike =
      is
      ∙ ap info_outcome
      (one dump files start now start' now' mine others found.reach other.reach found.founds other.founds found.spread other.spread found.all other.all alike)
      ∙ sym is'
