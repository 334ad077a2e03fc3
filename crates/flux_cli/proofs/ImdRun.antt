-- What `imd` did by what was said of the dumps.
use Rattle.std.specs.Prelude.{◌&&◌, cond, count_by, flat_map, nat_lt, not}
use Rattle.std.proofs.lemmas.List.Sums.{sum_by-append, sum_by-cons}
use Rattle.std.proofs.Common.{◌≡◌, ◌<◌, ◌≤◌, ◌+◌, ◌++◌, ℕ, zero, suc, Bool, List, [], ◌∷◌, length, take, get_or, Option, Some, None, Result, Ok, Err, inl, inr, refl, sym, ap, ◌∙◌, subst, arith}
use Rattle.std.proofs.lemmas.List.{take_all, take_more}
use Rattle.std.proofs.lemmas.List.Sums.{sum_by_push}
use Rattle.std.specs.Io.KnownBytes.{Appends}
use Rattle.imd_image.specs.Lines.{end_text}
use Rattle.dump_reading.specs.Files.{ShelfNow}
use Rattle.dump_reading.specs.declared.fault.NoFiles.{NoFiles}
use Rattle.dump_turns.specs.Lines.{has_failed}
use Rattle.dump_turns.specs.declared.found.Found.TheVariants.{PassedOver}
use Rattle.flux_engine.specs.LoopProgress.{lost_count, seen_at}
use Rattle.flux_engine.specs.Plans.{Seen, is_failed, passed_one, passed_to}
use Rattle.flux_engine.specs.declared.fault.Stopped.{Stopped}
use Rattle.flux_engine.specs.declared.fault.Stopped.TheVariants.{ReadFault, ImageFault, NotesFault, Refused}
use Rattle.flux_engine.specs.declared.gathered_track.PassedStream.{PassedStream}
use Rattle.imd_image.specs.Found.{IsFoundOf, TrackFound, found_at, passed_in}
use Rattle.imd_image.specs.Outcomes.{AllFound, DumpsAsked, SaysOfImd, lines_of, streams_at}
use Rattle.imd_image.specs.Totals.{all_passed, asks, is_complete, totals_of}
use Rattle.imd_image.specs.declared.totals.ImdTotals.{ImdTotals}
use Rattle.sector_report.specs.declared.dump_lines.Passed.{Passed}
use Rattle.sector_report.specs.declared.dump_lines.Passed.TheVariants.{Absent, Failed as HasFailed, Refused as IsRefused, RefusedScp}
use Rattle.track_shelf.specs.Files.{File}
use Rattle.track_shelf.specs.declared.stepping.Stepping.{Stepping}
use Rattle.imd_image.specs.Reaches.{IsWithout}
use Rattle.flux_base.specs.declared.status.Status.{Status}
use Rattle.flux_cli.proofs.EndingLaws.{IsDone, done-if}
use Rattle.flux_cli.proofs.Often.{fails-by, often-either, often-if}
use Rattle.flux_cli.proofs.ReadRun.{Failed, still-failed}
use Rattle.flux_cli.proofs.ShelfEnded.{Answers, same-kept, same-nothing}
use Rattle.flux_cli.specs.Blamed.{FailsOften}
use Rattle.flux_cli.specs.ImdRuns.{EmptyImd, ImdFound, IsToldWithout, imd_outcome, imd_status, imd_work}
use Rattle.flux_cli.specs.ShelfWork.{TellsEmpty, empty_outcome}
use Rattle.flux_cli.specs.Work.{Growth, Outcome}

-- whether files failed, and whether all is in the file
pub imd-done : (stepping : Stepping) (totals : ImdTotals) → IsDone (imd_status stepping totals)
imd-done stepping totals = done-if (nat_lt 0 totals.failed) (is_complete totals && not (asks stepping totals))

imd_often : (stepping : Stepping) (totals : ImdTotals) (often : ℕ) → totals.failed ≡ often → FailsOften (imd_status stepping totals) often
imd_often stepping totals often same =
    subst (FailsOften (imd_status stepping totals)) same
    (often-if (nat_lt 0 totals.failed) _ totals.failed (fails-by totals.failed) (λ none. often-either (is_complete totals && not (asks stepping totals)) totals.failed none))

-- the files are told as failed that failed
abbrev has_lost : PassedStream → Bool
has_lost p = has_failed (PassedOver p.why)

one_lost : (capture : ℕ) (passed : Option Passed) → count_by has_lost (passed_one capture passed) ≡ cond (is_failed passed) 1 0
one_lost capture None = refl
one_lost capture (Some Absent) = refl
one_lost capture (Some HasFailed) = refl
one_lost capture (Some (IsRefused block fault)) = refl
one_lost capture (Some (RefusedScp fault)) = refl

lost_to : (streams : List Seen) (count : ℕ) → count ≤ length streams → count_by has_lost (passed_to (λ n dump. seen_at streams dump) 0 count) ≡ lost_count (take count streams)
lost_to streams zero low = refl
lost_to streams (suc count) low =
    let next : take (count + 1) streams ≡ take count streams ++ seen_at streams count ∷ [] = take_more streams count _ (omega (arith, low)) in
    let same : suc count ≡ count + 1 = omega arith in
    sum_by-append (λ (p : PassedStream). cond (has_lost p) 1 0) (passed_to (λ n dump. seen_at streams dump) 0 count) (passed_one count (seen_at streams count).passed)
    ∙ ap (λ (n : ℕ). n + count_by has_lost (passed_one count (seen_at streams count).passed)) (lost_to streams count (omega (arith, low)))
    ∙ ap (λ (n : ℕ). lost_count (take count streams) + n) (one_lost count (seen_at streams count).passed)
    ∙ sym (sum_by_push (λ (s : Seen). cond (is_failed s.passed) 1 0) (take count streams) (seen_at streams count))
    ∙ sym (ap lost_count next) ∙ ap (λ (k : ℕ). lost_count (take k streams)) (sym same)

lost_in : (streams : List Seen) → count_by has_lost (passed_in streams) ≡ lost_count streams
lost_in streams = lost_to streams (length streams) (omega arith) ∙ ap lost_count (take_all (length streams) streams (omega arith))

failed_many : (came : List (List Seen)) (founds : List TrackFound) → length came ≡ length founds
    → ((n : ℕ) → n < length founds → (found_at founds n).passed ≡ passed_in (streams_at came n)) → count_by has_lost (all_passed founds) ≡ lost_count (flat_map (λ streams. streams) came)
failed_many [] [] many told = refl
failed_many [] (found ∷ founds) many told = absurd (omega (arith, many))
failed_many (streams ∷ came) [] many told = absurd (omega (arith, many))
failed_many (streams ∷ came) (found ∷ founds) many told =
    let first : count_by has_lost found.passed ≡ lost_count streams = ap (count_by has_lost) (told 0 (omega arith)) ∙ lost_in streams in
    let rest : count_by has_lost (all_passed founds) ≡ lost_count (flat_map (λ streams. streams) came) = failed_many came founds (omega (arith, many)) (λ n less. told (suc n) (omega (arith, less))) in
    sum_by-append (λ (p : PassedStream). cond (has_lost p) 1 0) found.passed (all_passed founds) ∙ ap (λ (n : ℕ). n + count_by has_lost (all_passed founds)) first
    ∙ ap (λ (n : ℕ). lost_count streams + n) rest
    ∙ sym (sum_by-append (λ (s : Seen). cond (is_failed s.passed) 1 0) streams (flat_map (λ streams. streams) came))

module _ (asked : DumpsAsked) (start now : ShelfNow) where
  abbrev by : ImdTotals → Status
  by = imd_status asked.stepping

  pub imd-failed : (file file' notes notes' : Option (List ℕ)) (answer : Result ImdTotals (Stopped NoFiles)) → SaysOfImd asked start now file file' notes notes' answer
      → Failed by start now answer
  imd-failed file file' notes notes' (Ok totals) says =
      let have = says.all.have in
      record {
        often = lost_count (flat_map (λ streams. streams) have.came);
        fails = imd_often asked.stepping totals (lost_count (flat_map (λ streams. streams) have.came))
            (ap (λ (t : ImdTotals). t.failed) says.totals_are ∙ failed_many have.came says.founds have.many (λ n low. (have.are n low).passed));
        many = have.have.counts;
        paths = _;
        told = have.have.told;
      }
  imd-failed file file' notes notes' (Err (Refused empty)) says = still-failed by start now empty says.now_is
  imd-failed file file' notes notes' (Err ReadFault) never = absurd never
  imd-failed file file' notes notes' (Err ImageFault) says =
      elim says [
        | inl begin ↦ kept (still-failed by start now (record { dump = 0 }) begin.now_is)
        | inr cut ↦ record { often = _; fails = tt; many = cut.some.have.have.counts; paths = _; told = cut.some.have.have.told }
      ]
    where
      kept : Failed by start now (Err (Refused (record { dump = 0 }))) → Failed by start now (Err ImageFault)
      kept f = record { often = f.often; fails = tt; many = f.many; paths = f.paths; told = f.told }
  imd-failed file file' notes notes' (Err NotesFault) says =
      elim says [
        | inl cut ↦ record { often = _; fails = tt; many = cut.some.have.have.counts; paths = _; told = cut.some.have.have.told }
        | inr end ↦ record { often = _; fails = tt; many = end.all.have.have.counts; paths = _; told = end.all.have.have.told }
      ]

  told-without : (told : Option (List File)) (number : ℕ) → ((files : List File) → told ≡ Some files → IsWithout files asked.stepping asked.names number) → IsToldWithout told asked number
  told-without None number first = tt
  told-without (Some files) number first = first files refl

  pub imd-answers : (image notes : Growth) (answer : Result ImdTotals (Stopped NoFiles)) → SaysOfImd asked start now image.before image.after notes.before notes.after answer
      → Answers (imd_work asked) asked.names start now image notes by answer
  imd-answers image notes (Ok totals) says =
      let found : ImdFound asked start now = record { reach = says.reach; founds = says.founds; all = says.all } in
      record {
        outcome = imd_outcome asked says.founds;
        is = inr (found, refl);
        same = ap by says.totals_are;
        image_got = says.file_is;
        notes_got = subst (λ (t : ImdTotals). Appends notes.before notes.after (lines_of asked says.founds ++ end_text asked.stepping t)) says.totals_are says.notes_are;
      }
  imd-answers image notes (Err (Refused empty)) says = record {
    is = λ line tells. inl (line, said line tells, refl);
    image_got = same-nothing image.before image.after says.file_is;
    same = says.notes_are;
    cut = λ line tells after part. inr (line, said line tells, same-kept image.before image.after says.file_is, part);
  }
    where
      said : (line : List ℕ) → TellsEmpty start.told.files asked.names empty.dump line → EmptyImd asked start now line
      said line tells = record { number = empty.dump; is = told-without start.told.files empty.dump says.first; still = says.now_is; tells = tells }
  imd-answers image notes (Err ReadFault) never = absurd never
  imd-answers image notes (Err ImageFault) says = says
  imd-answers image notes (Err NotesFault) says = inl says
