-- What ends a command, and whom the status that it ends with blames.
use Rattle.std.proofs.Common.{◌≡◌, ◌==◌, ◌≤◌, ℕ, Bool, true, false, if◌then◌else◌, List, Option, Result, Ok, Err, is_err, sym, subst}
use Rattle.flux_engine.specs.Blamed.{sink_blame, stop_blame, write_blame}
use Rattle.dump_reading.specs.Files.{CountsMany}
use Rattle.dump_reading.specs.declared.fault.NoFiles.{NoFiles}
use Rattle.flux_engine.specs.declared.fault.Stopped.{Stopped}
use Rattle.flux_engine.specs.declared.fault.Stopped.TheVariants.{Refused as RefusedInput, ReadFault as Unread, ImageFault as Unwritten, NotesFault as Untold}
use Rattle.flux_base.specs.Blames.{Blame, CountsBy, OutsideCounts, no_counts, no_one, the_notes, three_counts}
use Rattle.flux_base.specs.Counts.{Counts, FaultCounts}
use Rattle.flux_base.specs.Moments.{Moment, Puts}
use Rattle.flux_base.specs.Outside.{Rose}
use Rattle.flux_base.specs.declared.outside.Failed.{Failed}
use Rattle.flux_base.specs.declared.status.Status.{Status}
use Rattle.flux_base.specs.declared.status.Status.TheVariants.{AllGood, NotAllGood, Refused, Usage, ReadFault, ImageFault, NotesFault, Memory, ShelfFault}
use Rattle.flux_base.specs.lemmas.Blaming.{CountsBy-image, CountsBy-notes, CountsBy-then}
use Rattle.flux_base.specs.lemmas.Counting.{Counts-then}
use Rattle.flux_engine.specs.PlanAnswers.{PlanAnswer}
use Rattle.flux_engine.specs.Writes.{Answer as ImageAnswer}
use Rattle.flux_engine.specs.declared.write_fault.WriteFault.TheVariants.{WrongSize, ReadFault as ImageUnread, ImageFault as ImageUnwritten}
use Rattle.g64_image.specs.Answers.{FromAnswer}
use Rattle.sector_report.specs.declared.naming.Naming.{Naming}
use Rattle.track_shelf.specs.Files.{File}
use Rattle.flux_cli.proofs.Blaming.{good_blames}
use Rattle.flux_cli.specs.Blamed.{CountsOnShelf, FailsOften, source_blame}
use Rattle.flux_cli.specs.Endings.{Ending, EndsBy, EndsDumps, ending_blame, ends, file_ending, image_ending, plan_ending, refusal, refuses, written_status}
use Rattle.flux_cli.specs.Runs.{growth}
use Rattle.flux_cli.specs.Work.{Got, GotPart}
use Rattle.flux_cli.specs.ShelfWork.{ends_over_shelf}

module _ {N : Type 0} (P : Status → Moment N → Type 0) where
  -- the command ended with a status
  pub ends-with : (with status : Status) (before after : Moment N) → P with before → EndsBy (ends with) status before after → P status after
  ends-with with status before after here (same, still) = subst (λ (s : Status). P s after) (sym same) (subst (P with) (sym still) here)

  -- or with a line that refuses its input
  pub ends-refused : (text : List ℕ) (status : Status) (before after : Moment N)
      → (Got (growth before after) text → before.counts.faults ≤ after.counts.faults → P Refused after)
      → (GotPart (growth before after) text → before.counts.faults ≤ after.counts.faults → Rose before.counts.faults after.counts.faults → P NotesFault after)
      → EndsBy (refuses text) status before after → P status after
  ends-refused text Refused before after line part puts = line puts.ok puts.counts.later
  ends-refused text NotesFault before after line part (failed, puts) = part puts.err puts.counts.later puts.counts.cause
  ends-refused text AllGood before after line part never = absurd never
  ends-refused text NotAllGood before after line part never = absurd never
  ends-refused text Usage before after line part never = absurd never
  ends-refused text ReadFault before after line part never = absurd never
  ends-refused text ImageFault before after line part never = absurd never
  ends-refused text Memory before after line part never = absurd never
  ends-refused text ShelfFault before after line part never = absurd never

-- the line of a refusal was written, or cut
pub refused-as : {N : Type 0} {before after : Moment N} {line : List ℕ} (answer : Result (Unit {0}) Failed) → Puts before after line answer
    → EndsBy (refuses line) (refusal answer) before after
refused-as (Ok tt) puts = puts
refused-as (Err failed) puts = (failed, puts)

-- the line of a refusal counts as the notes' own
module _ (blame : Status → Blame) (quiet : blame Refused ≡ no_one) (told : blame NotesFault ≡ the_notes) {N : Type 0} {source source' image image' notes : FaultCounts} where
  pub ends-blame : (ending : Ending) (status : Status) (before after : Moment N)
      → CountsBy (ending_blame blame ending) (three_counts source image notes) (three_counts source' image' before.counts) → EndsBy ending status before after
      → CountsBy (blame status) (three_counts source image notes) (three_counts source' image' after.counts)
  ends-blame (ends with) status before after counts (same, still) =
      subst (λ (s : Status). CountsBy (blame s) (three_counts source image notes) (three_counts source' image' after.counts)) (sym same)
      (subst (λ (m : Moment N). CountsBy (blame with) (three_counts source image notes) (three_counts source' image' m.counts)) (sym still) counts)
  ends-blame (refuses text) Refused before after counts puts =
      subst (λ (b : Blame). CountsBy b (three_counts source image notes) (three_counts source' image' after.counts)) (sym quiet)
      (CountsBy-then no_one counts (CountsBy-notes source' image' false puts.counts))
  ends-blame (refuses text) NotesFault before after counts (failed, puts) =
      subst (λ (b : Blame). CountsBy b (three_counts source image notes) (three_counts source' image' after.counts)) (sym told)
      (CountsBy-then the_notes counts (CountsBy-notes source' image' true puts.counts))
  ends-blame (refuses text) AllGood before after counts never = absurd never
  ends-blame (refuses text) NotAllGood before after counts never = absurd never
  ends-blame (refuses text) Usage before after counts never = absurd never
  ends-blame (refuses text) ReadFault before after counts never = absurd never
  ends-blame (refuses text) ImageFault before after counts never = absurd never
  ends-blame (refuses text) Memory before after counts never = absurd never
  ends-blame (refuses text) ShelfFault before after counts never = absurd never

-- what work over dumps ends with that is done
abbrev pub IsDone : Status → Type 0
IsDone AllGood = Unit {0}
IsDone NotAllGood = Unit {0}
IsDone ShelfFault = Unit {0}
IsDone _ = ⊥

pub done-if : (some b : Bool) → IsDone (if some then ShelfFault else (if b then AllGood else NotAllGood))
done-if true b = tt
done-if false true = tt
done-if false false = tt

-- whom an answer blames, its ending does
module _ {before after : OutsideCounts} where
  pub plan-blame : (naming : Naming) (answer : PlanAnswer) → CountsBy (stop_blame answer) before after → CountsBy (ending_blame source_blame (plan_ending naming answer)) before after
  plan-blame naming (Ok totals) counts = good_blames (totals.good == totals.sectors) counts
  plan-blame naming (Err Unread) counts = counts
  plan-blame naming (Err Unwritten) counts = counts
  plan-blame naming (Err Untold) counts = counts
  plan-blame naming (Err (RefusedInput stop)) counts = counts

  pub image-blame : (answer : ImageAnswer) → CountsBy (write_blame answer) before after → CountsBy (ending_blame source_blame (image_ending answer)) before after
  image-blame (Ok _) counts = counts
  image-blame (Err ImageUnread) counts = counts
  image-blame (Err ImageUnwritten) counts = counts
  image-blame (Err (WrongSize read wanted)) counts = counts

  pub file-blame : (answer : FromAnswer) → CountsBy (stop_blame answer) before after → CountsBy (ending_blame source_blame (file_ending answer)) before after
  file-blame (Ok totals) counts = good_blames (totals.good == totals.sectors) counts
  file-blame (Err Unread) counts = counts
  file-blame (Err Unwritten) counts = counts
  file-blame (Err Untold) counts = counts
  file-blame (Err (RefusedInput fault)) counts = counts

-- how often files failed by what was answered of dumps
abbrev pub AnswersOften : {A : Type 0} → (A → Status) → Result A (Stopped NoFiles) → (often : ℕ) → Type 0
AnswersOften by (Ok done) often = FailsOften (by done) often
AnswersOften by (Err (RefusedInput empty)) often = often ≡ 0
AnswersOften by (Err Unread) often = ⊥
AnswersOften by (Err fault) often = Unit {0}

-- the counts of all by what was answered of them, and by how often files failed
module _ {A N : Type 0} (told : Option (List File)) (dumps : List (List ℕ)) {shelf shelf' image image' notes : FaultCounts} (by : A → Status) (done_is : (done : A) → IsDone (by done))
    (often : ℕ) (many : CountsMany often shelf shelf') (status : Status) (before after : Moment N) where
  done-on : (s : Status) → IsDone s → FailsOften s often → CountsBy no_one (three_counts no_counts image notes) (three_counts no_counts image' before.counts)
      → CountsOnShelf true s (three_counts shelf image notes) (three_counts shelf' image' before.counts)
  done-on AllGood done fails counts = record { shelf = (often, fails, many); image = counts.image; notes = counts.notes }
  done-on NotAllGood done fails counts = record { shelf = (often, fails, many); image = counts.image; notes = counts.notes }
  done-on ShelfFault done fails counts = record { shelf = (often, fails, many); image = counts.image; notes = counts.notes }
  done-on Refused done fails counts = absurd done
  done-on Usage done fails counts = absurd done
  done-on ReadFault done fails counts = absurd done
  done-on ImageFault done fails counts = absurd done
  done-on NotesFault done fails counts = absurd done
  done-on Memory done fails counts = absurd done

  refused-on : (line : List ℕ) (s : Status) → often ≡ 0 → CountsBy no_one (three_counts no_counts image notes) (three_counts no_counts image' before.counts) → EndsBy (refuses line) s before after
      → CountsOnShelf true s (three_counts shelf image notes) (three_counts shelf' image' after.counts)
  refused-on line Refused none counts puts = record { shelf = (often, none, many); image = counts.image; notes = Counts-then false counts.notes puts.counts }
  refused-on line NotesFault none counts (failed, puts) = record { shelf = (often, tt, many); image = counts.image; notes = Counts-then true counts.notes puts.counts }
  refused-on line AllGood none counts never = absurd never
  refused-on line NotAllGood none counts never = absurd never
  refused-on line Usage none counts never = absurd never
  refused-on line ReadFault none counts never = absurd never
  refused-on line ImageFault none counts never = absurd never
  refused-on line Memory none counts never = absurd never
  refused-on line ShelfFault none counts never = absurd never

  pub dumps-blame : (answer : Result A (Stopped NoFiles)) → AnswersOften by answer often
      → CountsBy (sink_blame answer) (three_counts no_counts image notes) (three_counts no_counts image' before.counts)
      → EndsDumps told dumps by answer status before after → CountsOnShelf true status (three_counts shelf image notes) (three_counts shelf' image' after.counts)
  dumps-blame (Ok done) fails counts is = ends-with (λ (s : Status) (n : Moment N). CountsOnShelf true s (three_counts shelf image notes) (three_counts shelf' image' n.counts)) (by done) status before after (done-on (by done) (done_is done) fails counts) is
  dumps-blame (Err Unread) never counts is = absurd never
  dumps-blame (Err (RefusedInput empty)) fails counts is = refused-on is.line status fails counts is.ends
  dumps-blame (Err Unwritten) fails counts is =
      ends-with (λ (s : Status) (n : Moment N). CountsOnShelf true s (three_counts shelf image notes) (three_counts shelf' image' n.counts)) ImageFault status before after (record { shelf = (often, tt, many); image = counts.image; notes = counts.notes }) is.ends
  dumps-blame (Err Untold) fails counts is =
      ends-with (λ (s : Status) (n : Moment N). CountsOnShelf true s (three_counts shelf image notes) (three_counts shelf' image' n.counts)) NotesFault status before after (record { shelf = (often, tt, many); image = counts.image; notes = counts.notes }) is.ends

-- what a command over the source ends with where it had its memory
abbrev pub IsOverSource : Status → Type 0
IsOverSource Memory = ⊥
IsOverSource ShelfFault = ⊥
IsOverSource _ = Unit {0}

-- and what one over the shelf does
done-over-shelf : (status : Status) → IsDone status → ends_over_shelf status
done-over-shelf AllGood done = tt
done-over-shelf NotAllGood done = tt
done-over-shelf ShelfFault done = tt
done-over-shelf Refused done = absurd done
done-over-shelf Usage done = absurd done
done-over-shelf ReadFault done = absurd done
done-over-shelf ImageFault done = absurd done
done-over-shelf NotesFault done = absurd done
done-over-shelf Memory done = absurd done

module _ {N : Type 0} (before after : Moment N) (status : Status) where
  pub ended-by-line : (text : List ℕ) (P : Status → Type 0) → P Refused → P NotesFault → EndsBy (refuses text) status before after → P status
  ended-by-line text P refused cut is = ends-refused (λ (s : Status) (n : Moment N). P s) text status before after (λ line later. refused) (λ part later rose. cut) is

  pub plan-over-source : (naming : Naming) (answer : PlanAnswer) → EndsBy (plan_ending naming answer) status before after → IsOverSource status
  plan-over-source naming (Ok totals) is = ends-with (λ (s : Status) (n : Moment N). IsOverSource s) _ status before after (either (totals.good == totals.sectors)) is
    where
      either : (b : Bool) → IsOverSource (if b then AllGood else NotAllGood)
      either true = tt
      either false = tt
  plan-over-source naming (Err Unread) is = ends-with (λ (s : Status) (n : Moment N). IsOverSource s) ReadFault status before after tt is
  plan-over-source naming (Err Unwritten) is = ends-with (λ (s : Status) (n : Moment N). IsOverSource s) ImageFault status before after tt is
  plan-over-source naming (Err Untold) is = ends-with (λ (s : Status) (n : Moment N). IsOverSource s) NotesFault status before after tt is
  plan-over-source naming (Err (RefusedInput stop)) is =
      ended-by-line _ IsOverSource tt tt is

  pub shelf-over-shelf : {A : Type 0} (told : Option (List File)) (dumps : List (List ℕ)) (by : A → Status) → ((done : A) → IsDone (by done)) → (answer : Result A (Stopped NoFiles))
      → EndsDumps told dumps by answer status before after → ends_over_shelf status
  shelf-over-shelf told dumps by done_is (Ok done) is = ends-with (λ (s : Status) (n : Moment N). ends_over_shelf s) _ status before after (done-over-shelf (by done) (done_is done)) is
  shelf-over-shelf told dumps by done_is (Err Unwritten) is = ends-with (λ (s : Status) (n : Moment N). ends_over_shelf s) ImageFault status before after tt is.ends
  shelf-over-shelf told dumps by done_is (Err Untold) is = ends-with (λ (s : Status) (n : Moment N). ends_over_shelf s) NotesFault status before after tt is.ends
  shelf-over-shelf told dumps by done_is (Err Unread) is = ends-with (λ (s : Status) (n : Moment N). ends_over_shelf s) ShelfFault status before after tt is.ends
  shelf-over-shelf told dumps by done_is (Err (RefusedInput empty)) is = ended-by-line _ ends_over_shelf tt tt is.ends

-- what is written to the image alone
pub written-blame : {source image image' notes : FaultCounts} (answer : Result (Unit {0}) Failed) → Counts (is_err answer) image image'
    → CountsBy (source_blame (written_status answer)) (three_counts source image notes) (three_counts source image' notes)
written-blame {source = source} {notes = notes} (Ok _) counts = CountsBy-image source notes false counts
written-blame {source = source} {notes = notes} (Err _) counts = CountsBy-image source notes true counts
