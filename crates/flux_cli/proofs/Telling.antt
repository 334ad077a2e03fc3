-- What stays said of a run where a line is told behind it.
use Rattle.std.proofs.Common.{◌≡◌, ◌≤◌, ◌||◌, ℕ, List, Bool, true, false, is_err, Result, subst, sym}
use Rattle.flux_base.specs.Counts.{Counts, FaultCounts}
use Rattle.flux_base.specs.Moments.{Moment, Puts}
use Rattle.flux_base.specs.declared.outside.Failed.{Failed}
use Rattle.flux_base.specs.declared.status.Status.{Status}
use Rattle.flux_base.specs.declared.status.Status.TheVariants.{AllGood, NotAllGood, Refused, Usage, ReadFault, ImageFault, NotesFault, Memory, ShelfFault}
use Rattle.flux_base.specs.lemmas.Counting.{Counts-then}
use Rattle.flux_base.specs.Blames.{is_notes}
use Rattle.flux_cli.specs.Blamed.{CountsOfNotes, CountsOfRun, Making, nothing, files, files_of_dumps, all_counts, AllCounts, source_blame, tells_unmade}
use Rattle.flux_cli.specs.OutputTold.{RanAndTold, ToldIf, failed_output_text, is_told, tells_faults, with_notes}
use Rattle.flux_words.specs.Asked.{Asked, the_turns, some_streams, a_folder, some_dumps, a_sector, an_identity, told_files, an_imd_file, an_archive, written_streams, written_files, split_streams, unpacked_file, a_trial, a_g64_file, an_image_of_g64, a_page}
use Rattle.flux_cli.specs.ShelfRuns.{Ran}
use Rattle.flux_cli.specs.World.{Outside, World, on_shelf, InputMoment, on_source, outside}
use Rattle.flux_cli.specs.Runs.{Does}
use Rattle.flux_cli.specs.Promises.{Expected, Promises, known}
use Rattle.flux_cli.specs.Work.{Outcome}

-- the line that was written, or cut
pub told-line : {N : Type 0} (told : Bool) (before after : Moment N) (answer : Result (Unit {0}) Failed) → told ≡ true → Puts before after failed_output_text answer
    → ToldIf told before after
told-line true before after answer is puts = (answer, puts)
told-line false before after answer is puts = absurd (cc)

module _ {N : Type 0} (words : List (List ℕ)) (left after : Moment N) where
  -- what is said by the status and the notes, and of a fault of the output not by these
  pub still : (Says : Status → Moment N → Type 0) → (Says ImageFault left → Says ImageFault after) → (status : Status) → ToldIf (is_told words status) left after
      → Says status left → Says status after
  still Says output AllGood told says = subst (Says AllGood) (sym told) says
  still Says output NotAllGood told says = subst (Says NotAllGood) (sym told) says
  still Says output Refused told says = subst (Says Refused) (sym told) says
  still Says output Usage told says = subst (Says Usage) (sym told) says
  still Says output ReadFault told says = subst (Says ReadFault) (sym told) says
  still Says output ImageFault told says = output says
  still Says output NotesFault told says = subst (Says NotesFault) (sym told) says
  still Says output Memory told says = subst (Says Memory) (sym told) says
  still Says output ShelfFault told says = subst (Says ShelfFault) (sym told) says

  -- a fault of the output and the line, by the notes' counts
  told-counts : (makes : Making) (told : Bool) (before : FaultCounts) → ToldIf told left after → CountsOfNotes (tells_unmade makes ImageFault || false) false before left.counts
      → CountsOfNotes (tells_unmade makes ImageFault || told) false before after.counts
  told-counts nothing true before line counts = (is_err line.0, Counts-then (is_err line.0) counts line.1.counts)
  told-counts nothing false before line counts = subst (λ (m : Moment N). Counts false before m.counts) (sym line) counts
  told-counts files true before line counts = (is_err line.0, Counts-then (is_err line.0) counts line.1.counts)
  told-counts files false before line counts = subst (λ (m : Moment N). Counts false before m.counts) (sym line) counts
  told-counts files_of_dumps true before line counts = (is_err line.0, Counts-then (is_err line.0) counts line.1.counts)
  told-counts files_of_dumps false before line counts = subst (λ (m : Moment N). Counts false before m.counts) (sym line) counts

  -- and by those of all
  module _ (dumps : Bool) (makes : Making) (source source' shelf shelf' image image' notes maker maker' : FaultCounts) where
    abbrev Counted : (told : Bool) → Status → FaultCounts → Type 0
    Counted told status notes' = CountsOfRun dumps makes told status (all_counts source shelf image notes maker) (all_counts source' shelf' image' notes' maker')

    pub counts-told : (status : Status) → ToldIf (is_told words status) left after → Counted false status left.counts → Counted (is_told words status) status after.counts
    counts-told AllGood told c = subst (λ (m : Moment N). Counted false AllGood m.counts) (sym told) c
    counts-told NotAllGood told c = subst (λ (m : Moment N). Counted false NotAllGood m.counts) (sym told) c
    counts-told Refused told c = subst (λ (m : Moment N). Counted false Refused m.counts) (sym told) c
    counts-told Usage told c = subst (λ (m : Moment N). Counted false Usage m.counts) (sym told) c
    counts-told ReadFault told c = subst (λ (m : Moment N). Counted false ReadFault m.counts) (sym told) c
    counts-told ImageFault told c = record { source = c.source; files = c.files; image = c.image; notes = told-counts makes (tells_faults words) notes told c.notes }
    counts-told NotesFault told c = subst (λ (m : Moment N). Counted false NotesFault m.counts) (sym told) c
    counts-told Memory told c = subst (λ (m : Moment N). Counted false Memory m.counts) (sym told) c
    counts-told ShelfFault told c = subst (λ (m : Moment N). Counted false ShelfFault m.counts) (sym told) c

-- the notes before the line failed no less often than at first
pub notes-later : (dumps : Bool) (makes : Making) (status : Status) (before after : AllCounts) → CountsOfRun dumps makes false status before after → before.notes.faults ≤ after.notes.faults
notes-later dumps makes status before after counts = by (tells_unmade makes status || false) (is_notes (source_blame status)) counts.notes
  where
    by : (told fails : Bool) → CountsOfNotes told fails before.notes after.notes → before.notes.faults ≤ after.notes.faults
    by false fails c = c.later
    by true fails c = c.1.later

-- what was known of work that a fault of the output cut, is known of it behind the line
output-known : {A V W N : Type 0} (ends cuts : Status → Type 0) (Known : (start now : V) → Outcome → Type 0) (before : Outside A V W N) (input : InputMoment A V) (image : Moment W) (left notes : Moment N)
    → Does (known ends cuts Known) ImageFault before (outside input image left) → Does (known ends cuts Known) ImageFault before (outside input image notes)
output-known ends cuts Known before input image left notes did = record { answer = did.answer; says = did.says; keeps = did.keeps }

output_expected : {S W N H M : Type 0} (before left : World S W N H M) (notes : Moment N) (asked : Asked) → Expected asked ImageFault before left
    → Expected asked ImageFault before (with_notes notes left)
output_expected before left notes (some_streams asked) did = output-known _ _ _ (on_source before) left.source left.image left.notes notes did
output_expected before left notes (a_folder format folder) did = output-known _ _ _ (on_shelf before) left.shelf left.image left.notes notes did
output_expected before left notes (some_dumps asked) did = output-known _ _ _ (on_shelf before) left.shelf left.image left.notes notes did
output_expected before left notes (an_image_of_g64 disk) did = output-known _ _ _ (on_source before) left.source left.image left.notes notes did
output_expected before left notes (a_trial format seed) did = output-known _ _ _ (on_source before) left.source left.image left.notes notes did
output_expected before left notes the_turns did = tt
output_expected before left notes (a_sector asked) did = tt
output_expected before left notes (an_identity dump) did = tt
output_expected before left notes (told_files dump) did = tt
output_expected before left notes (an_imd_file asked) did = tt
output_expected before left notes (an_archive asked) did = tt
output_expected before left notes (written_streams format) did = tt
output_expected before left notes (written_files format folder) did = did
output_expected before left notes (split_streams folder heads) did = did
output_expected before left notes (unpacked_file file folder) did = tt
output_expected before left notes (a_g64_file disk) did = tt
output_expected before left notes (a_page page) did = tt

-- what a run over all objects left before the line, and what is said of it behind the line
module _ {S W N H M : Type 0} {words : List (List ℕ)} {status : Status} {before left : World S W N H M} (ran : Ran words status before left) (notes : Moment N)
    (told : ToldIf (is_told words status) left.notes notes) where
  pub ran-told : before.notes.counts.faults ≤ left.notes.counts.faults → RanAndTold words status before (with_notes notes left)
  ran-told later = record { notes = left.notes; ran = ran; later = later; told = told }

  pub promises-told : Promises words status before left → Promises words status before (with_notes notes left)
  promises-told promises asked are =
      still words left.notes notes (λ s n. Expected asked s before (with_notes n left)) (output_expected before left notes asked) status told (promises asked are)
