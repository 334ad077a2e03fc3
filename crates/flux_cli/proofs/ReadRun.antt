-- What `read` did by what reading the dumps answered.
use Rattle.std.specs.Prelude.{nat_lt}
use Rattle.std.proofs.Common.{◌≡◌, ◌+◌, ℕ, List, [], Option, Some, Result, Ok, Err, inl, inr, refl, sym, ap, ◌∙◌, subst}
use Rattle.disk_map.specs.Dumps.{SaysOfDrawing, dumps_part, picture_of}
use Rattle.dump_reading.specs.Beside.{LinesOf, beside_lines, no_lines}
use Rattle.dump_reading.specs.DumpStreams.{FailedAlike}
use Rattle.dump_reading.specs.Files.{CountsMany, ShelfNow}
use Rattle.dump_reading.specs.Outcomes.{DumpDisk, DumpsRead, FilesFailed, IsReadBy, SaysOfDumps, report_of}
use Rattle.dump_reading.specs.Reports.{read_part}
use Rattle.dump_reading.specs.Totals.{is_complete}
use Rattle.dump_reading.specs.declared.fault.NoFiles.{NoFiles}
use Rattle.flux_engine.specs.declared.fault.Stopped.{Stopped}
use Rattle.flux_engine.specs.declared.fault.Stopped.TheVariants.{ReadFault, ImageFault, NotesFault, Refused}
use Rattle.dump_reading.specs.declared.totals.DumpTotals.{DumpTotals}
use Rattle.dump_reading.specs.lemmas.Coming.{none-failed}
use Rattle.flux_base.specs.declared.status.Status.{Status}
use Rattle.flux_engine.specs.LoopProgress.{lost_count}
use Rattle.flux_engine.specs.Plans.{PartOf, Seen}
use Rattle.flux_engine.specs.Tracks.{TrackPart}
use Rattle.law_read_dumps.specs.Said.{AllOfDumpsIsOne}
use Rattle.track_shelf.specs.Files.{File}
use Rattle.track_shelf.specs.Told.{with_failed}
use Rattle.flux_cli.proofs.EndingLaws.{AnswersOften, IsDone, done-if}
use Rattle.flux_cli.proofs.Often.{fails-by, many-none, often-either, often-if}
use Rattle.flux_cli.proofs.ShelfEnded.{Answers, none-of-disk, none-or-empty, one-empty, same-kept, same-nothing}
use Rattle.flux_cli.specs.Blamed.{FailsOften}
use Rattle.flux_cli.specs.ReadRuns.{AreFailedAlike, FailedAsRead, IsOutcomeOfDumps, IsShown, came_shown, read_outcome, read_status, read_work}
use Rattle.flux_cli.specs.ShelfWork.{empty_outcome}
use Rattle.flux_cli.specs.Work.{Got, Growth, Outcome}
use Rattle.flux_words.specs.declared.options.Shown.{Shown}
use Rattle.flux_words.specs.declared.options.Shown.TheVariants.{Image, Picture}

-- whether files failed, and whether the image is all that can be read there
pub read-done : (totals : DumpTotals) → IsDone (read_status totals)
read-done totals = done-if (nat_lt 0 totals.lost) (is_complete totals)

read_often : (totals : DumpTotals) (often : ℕ) → totals.lost ≡ often → FailsOften (read_status totals) often
read_often totals often same =
    subst (FailsOften (read_status totals)) same
    (often-if (nat_lt 0 totals.lost) _ totals.lost (fails-by totals.lost) (λ none. often-either (is_complete totals) totals.lost none))

-- what the shelf did: so many files failed, and nothing else of it changed
pub record Failed {A : Type 0} (by : A → Status) (start now : ShelfNow) (answer : Result A (Stopped NoFiles)) : Type 0 where
  pub often : ℕ
  pub fails : AnswersOften by answer often
  pub many : CountsMany often start.counts now.counts
  pub paths : List (List ℕ)
  pub told : now.told ≡ with_failed paths start.told

pub still-failed : {A : Type 0} (by : A → Status) (start now : ShelfNow) (empty : NoFiles) → now ≡ start → Failed by start now (Err (Refused empty))
still-failed by start now empty still =
    subst (λ (s : ShelfNow). Failed by start s (Err (Refused empty))) (sym still)
    (record { often = 0; fails = refl; many = many-none start.counts; paths = []; told = none-failed start.told })

-- What an answer over dumps tells of the shelf: the files of the streams that came failed which are passed over for that, and the numbers count them.
abbrev pub ShelfDid : DumpDisk → (start now : ShelfNow) → Result DumpTotals (Stopped NoFiles) → Type 0
ShelfDid disk start now (Ok totals) =
    (came : List Seen × List Seen) × FilesFailed disk start now came.0 came.1 × (totals.lost ≡ lost_count came.0 + lost_count came.1)
ShelfDid disk start now (Err (Refused empty)) = now ≡ start
ShelfDid disk start now (Err ReadFault) = ⊥
ShelfDid disk start now (Err fault) = (came : List Seen × List Seen) × FilesFailed disk start now came.0 came.1

pub files-failed : (disk : DumpDisk) (start now : ShelfNow) (answer : Result DumpTotals (Stopped NoFiles)) → ShelfDid disk start now answer → Failed read_status start now answer
files-failed disk start now (Ok totals) (came, shelf, lost) = record { often = _; fails = read_often totals _ lost; many = shelf.counts; paths = _; told = shelf.told }
files-failed disk start now (Err (Refused empty)) still = still-failed read_status start now empty still
files-failed disk start now (Err ReadFault) never = absurd never
files-failed disk start now (Err ImageFault) (came, shelf) = record { often = _; fails = tt; many = shelf.counts; paths = _; told = shelf.told }
files-failed disk start now (Err NotesFault) (came, shelf) = record { often = _; fails = tt; many = shelf.counts; paths = _; told = shelf.told }

module _ (disk : DumpDisk) (start now : ShelfNow) (image notes : Growth) where
  pub read-answers : (answer : Result DumpTotals (Stopped NoFiles)) → SaysOfDumps disk start now image.before image.after notes.before notes.after answer
      → Answers (read_work Image disk) disk.dumps start now image notes read_status answer
  read-answers (Ok totals) says = record {
    outcome = read_outcome says.1.outcome;
    is = inr (says.0, (says.1.outcome, (says.1.is, says.1.shelf), refl));
    same = ap read_status says.1.totals_are;
    image_got = says.1.image_grew;
    notes_got = says.1.notes_grew;
  }
  read-answers (Err (Refused empty)) says =
      none-of-disk (read_work Image disk) start now image notes disk empty.dump says.0 says.1 says.2 says.3 says.4 (λ line first. inl (line, first, says.2, refl)) (λ after cut. inr cut)
  read-answers (Err ReadFault) never = absurd never
  read-answers (Err ImageFault) says = says
  read-answers (Err NotesFault) says = inl says

  pub read-did : (answer : Result DumpTotals (Stopped NoFiles)) → SaysOfDumps disk start now image.before image.after notes.before notes.after answer → ShelfDid disk start now answer
  read-did (Ok totals) says =
      ((says.1.is.streams, says.1.is.beside.came), says.1.shelf, ap (λ (t : DumpTotals). t.lost) (says.1.totals_are ∙ ap (λ (d : DumpsRead). d.totals) says.1.is.is))
  read-did (Err (Refused empty)) says = says.2
  read-did (Err ReadFault) never = absurd never
  read-did (Err ImageFault) says = ((says.are.streams, []), says.are.shelf)
  read-did (Err NotesFault) says =
      elim says [
        | inl stops ↦ elim stops [ inl lines ↦ ((lines.are.streams, []), lines.are.shelf) | inr beside ↦ ((beside.streams, beside.beside.came), beside.shelf) ]
        | inr end ↦ ((end.streams, end.beside.came), end.shelf)
      ]

  pub draw-answers : (answer : Result DumpTotals (Stopped NoFiles)) → SaysOfDrawing disk start now image.before image.after answer → notes.after ≡ notes.before
      → Answers (read_work Picture disk) disk.dumps start now image notes read_status answer
  draw-answers (Ok totals) says same = record {
    outcome = read_outcome says.1.outcome;
    is = inr (says.0, (says.1.outcome, (says.1.is, says.1.shelf), refl));
    same = ap read_status says.1.totals_are;
    image_got = says.1.grew;
    notes_got = subst (Got notes) (sym (ap (λ (d : DumpsRead). d.notes) says.1.is.is)) (same-nothing notes.before notes.after same);
  }
  draw-answers (Err (Refused empty)) says same =
      none-of-disk (read_work Picture disk) start now image notes disk empty.dump says.0 says.1 says.2 says.3 same (λ line first. inl (line, first, says.2, refl)) (λ after cut. cut)
  draw-answers (Err ReadFault) never same = absurd never
  draw-answers (Err ImageFault) says same = (says, same-kept notes.before notes.after same)
  draw-answers (Err NotesFault) says same = absurd says

module _ (disk : DumpDisk) (start now : ShelfNow) (image : Growth) where
  pub draw-did : (answer : Result DumpTotals (Stopped NoFiles)) → SaysOfDrawing disk start now image.before image.after answer → ShelfDid disk start now answer
  draw-did (Ok totals) says =
      ((says.1.is.streams, says.1.is.beside.came), says.1.shelf, ap (λ (t : DumpTotals). t.lost) (says.1.totals_are ∙ ap (λ (d : DumpsRead). d.totals) says.1.is.is))
  draw-did (Err (Refused empty)) says = says.2
  draw-did (Err ReadFault) never = absurd never
  draw-did (Err ImageFault) says = ((says.streams, says.beside), says.shelf)
  draw-did (Err NotesFault) says = absurd says

-- what comes of dumps is one, where the same files failed
module _ (one : AllOfDumpsIsOne) (of : PartOf) (beside_of : LinesOf) (whole : List TrackPart → List ℕ → DumpTotals → DumpsRead) (disk : DumpDisk) (files : List File) (a b : DumpsRead) where
  abbrev AreOne : (told told' : Option (List File)) → Type 0
  AreOne told told' =
      (p : IsReadBy of beside_of whole disk told a) (q : IsReadBy of beside_of whole disk told' b) → FailedAlike p.streams q.streams → FailedAlike p.beside.came q.beside.came → a ≡ b

  all_one : (told told' : Option (List File)) → told ≡ Some files → told' ≡ Some files → AreOne told told'
  all_one told told' mine others =
      subst (λ (t : Option (List File)). AreOne t told') (sym mine)
      (subst (AreOne (Some files)) (sym others) (one of beside_of whole disk files a b))

module _ (one : AllOfDumpsIsOne) (disk : DumpDisk) (files : List File) (start now start' now' : ShelfNow) (mine : start.told.files ≡ Some files) (others : start'.told.files ≡ Some files) where
  one_shown : (shown : Shown) (d e : DumpsRead) (p : IsShown shown disk start now d) (q : IsShown shown disk start' now' e)
      → AreFailedAlike (came_shown shown disk start now d p) (came_shown shown disk start' now' e q) → d ≡ e
  one_shown Image d e p q alike = all_one one read_part beside_lines report_of disk files d e start.told.files start'.told.files mine others p.0 q.0 alike.0 alike.1
  one_shown Picture d e p q alike = all_one one dumps_part no_lines (picture_of disk.format) disk files d e start.told.files start'.told.files mine others p.0 q.0 alike.0 alike.1

  -- the files, and which of them failed, decide the outcome of `read`
  pub one_outcome_of_dumps : (shown : Shown) (a b : Outcome) (p : IsOutcomeOfDumps shown disk start now a) (q : IsOutcomeOfDumps shown disk start' now' b)
      → FailedAsRead shown disk start now start' now' a b p q → a ≡ b
  one_outcome_of_dumps shown a b (inl (line, first, still, is)) (inl (other, second, still', is')) alike =
      is ∙ ap empty_outcome (one-empty disk files _ _ mine others line other first second) ∙ sym is'
  one_outcome_of_dumps shown a b (inl (line, first, still, is)) (inr (none, (e, q, is'))) alike = absurd (none-or-empty disk files _ _ mine others line first none)
  one_outcome_of_dumps shown a b (inr (none, (d, p, is))) (inl (line, first, still, is')) alike = absurd (none-or-empty disk files _ _ others mine line first none)
  one_outcome_of_dumps shown a b (inr (none, (d, p, is))) (inr (none', (e, q, is'))) alike = is ∙ ap read_outcome (one_shown shown d e p q alike) ∙ sym is'
