-- The counts of all objects of a run, from those of the objects that a command has.
use Rattle.std.specs.Prelude.{if◌then◌else◌, ◌||◌, Bool, true, false}
use Rattle.std.proofs.Common.{◌≡◌, refl, subst, sym, arith}
use Rattle.flux_base.specs.Blames.{Blame, CountsBy, OutsideCounts, no_counts, no_one, the_source, the_image, the_notes, three_counts}
use Rattle.flux_base.specs.Counts.{Counts, FaultCounts}
use Rattle.flux_base.specs.declared.status.Status.{Status}
use Rattle.flux_base.specs.declared.status.Status.TheVariants.{AllGood, NotAllGood, Refused, Usage, ReadFault, ImageFault, NotesFault, Memory, ShelfFault}
use Rattle.flux_base.specs.lemmas.Blaming.{CountsBy-none}
use Rattle.flux_base.specs.lemmas.Counting.{Counts-none}
use Rattle.flux_cli.proofs.Often.{many-none}
use Rattle.flux_cli.specs.Runs.{Does}
use Rattle.flux_cli.specs.Work.{Work}
use Rattle.flux_cli.specs.World.{Outside}
use Rattle.flux_cli.specs.Blamed.{CountsOfFiles, FailsKept, IsOfFiles, IsUnmade, Making, nothing, files, files_of_dumps, CountsOfNotes, CountsOfRun, CountsOfShelf, CountsOnShelf, all_counts, is_of_files, shelf_blame, source_blame, tells_unmade}

-- a call that has no notes
pub CountsBy-noteless : {source source' image image' : FaultCounts} (notes : FaultCounts) (blame : Blame)
    → CountsBy blame (three_counts source image no_counts) (three_counts source' image' no_counts)
    → CountsBy blame (three_counts source image notes) (three_counts source' image' notes)
CountsBy-noteless notes no_one counts = record { source = counts.source; image = counts.image; notes = Counts-none notes }
CountsBy-noteless notes the_source counts = record { source = counts.source; image = counts.image; notes = Counts-none notes }
CountsBy-noteless notes the_image counts = record { source = counts.source; image = counts.image; notes = Counts-none notes }
CountsBy-noteless notes the_notes counts = absurd (omega (arith, counts.notes.cause))

-- a status that tells whether all is good tells no fault
pub good_blames : {before after : OutsideCounts} (b : Bool) → CountsBy no_one before after
    → CountsBy (source_blame (if b then AllGood else NotAllGood)) before after
good_blames true counts = counts
good_blames false counts = counts

pub good_blames_of_shelf : {before after : OutsideCounts} (b : Bool) → CountsBy no_one before after
    → CountsBy (shelf_blame (if b then AllGood else NotAllGood)) before after
good_blames_of_shelf true counts = counts
good_blames_of_shelf false counts = counts

-- what is done with the shelf as the source, where no fault of it is told
pub other_blames : {before after : OutsideCounts} (status : Status) → (status ≡ ReadFault → ⊥) → (status ≡ ShelfFault → ⊥) → CountsBy (source_blame status) before after
    → CountsBy (shelf_blame status) before after
other_blames AllGood unread other counts = counts
other_blames NotAllGood unread other counts = counts
other_blames Refused unread other counts = counts
other_blames Usage unread other counts = counts
other_blames ReadFault unread other counts = absurd (unread refl)
other_blames ImageFault unread other counts = counts
other_blames NotesFault unread other counts = counts
other_blames Memory unread other counts = counts
other_blames ShelfFault unread other counts = absurd (other refl)

-- a status that tells no fault of files
no_files : (status : Status) → (status ≡ ShelfFault → ⊥) → is_of_files status ≡ false
no_files AllGood other = refl
no_files NotAllGood other = refl
no_files Refused other = refl
no_files Usage other = refl
no_files ReadFault other = refl
no_files ImageFault other = refl
no_files NotesFault other = refl
no_files Memory other = refl
no_files ShelfFault other = absurd (other refl)

no_fault : (status : Status) → (status ≡ ShelfFault → ⊥) → IsOfFiles status no_one
no_fault AllGood other = refl
no_fault NotAllGood other = refl
no_fault Refused other = refl
no_fault Usage other = refl
no_fault ReadFault other = refl
no_fault ImageFault other = refl
no_fault NotesFault other = refl
no_fault Memory other = refl
no_fault ShelfFault other = tt

uncalled : (status : Status) → (status ≡ ShelfFault → ⊥) → (counts : FaultCounts) → Counts (is_of_files status) counts counts
uncalled status other counts = subst (λ (fails : Bool). Counts fails counts counts) (sym (no_files status other)) (Counts-none counts)

-- a shelf that is not touched, where no fault of it is told
still_shelf : (dumps : Bool) (status : Status) → (status ≡ ShelfFault → ⊥) → (shelf : FaultCounts) → CountsOfShelf dumps status shelf shelf
still_shelf true AllGood other shelf = (0, refl, many-none shelf)
still_shelf true NotAllGood other shelf = (0, refl, many-none shelf)
still_shelf true Refused other shelf = (0, refl, many-none shelf)
still_shelf true Usage other shelf = (0, refl, many-none shelf)
still_shelf true ReadFault other shelf = (0, refl, many-none shelf)
still_shelf true ImageFault other shelf = (0, tt, many-none shelf)
still_shelf true NotesFault other shelf = (0, tt, many-none shelf)
still_shelf true Memory other shelf = (0, refl, many-none shelf)
still_shelf true ShelfFault other shelf = absurd (other refl)
still_shelf false status other shelf = uncalled status other shelf

-- what makes files is not touched either
never_kept : (status : Status) → FailsKept status 0
never_kept AllGood = refl
never_kept NotAllGood = refl
never_kept Refused = tt
never_kept Usage = tt
never_kept ReadFault = tt
never_kept ImageFault = tt
never_kept NotesFault = tt
never_kept Memory = tt
never_kept ShelfFault = tt

pub none_unmade : (status : Status) → IsUnmade status false
none_unmade AllGood = refl
none_unmade NotAllGood = refl
none_unmade Refused = refl
none_unmade Usage = refl
none_unmade ReadFault = refl
none_unmade ImageFault = refl
none_unmade NotesFault = refl
none_unmade Memory = refl
none_unmade ShelfFault = tt

still_files : (dumps : Bool) (makes : Making) (status : Status) → (status ≡ ShelfFault → ⊥) → (shelf maker : FaultCounts) → CountsOfFiles dumps makes status shelf shelf maker maker
still_files dumps nothing status other shelf maker = (still_shelf dumps status other shelf, Counts-none maker)
still_files false files status other shelf maker = (Counts-none shelf, uncalled status other maker)
still_files true files status other shelf maker = (no_one, no_fault status other, Counts-none shelf, Counts-none maker)
still_files dumps files_of_dumps status other shelf maker =
    record { often = 0; fails = never_kept status; many = many-none shelf; unmade = false; is_unmade = none_unmade status; making = Counts-none maker }

-- and no line tells of it
untold_files : (makes : Making) (fails : Bool) (status : Status) → (status ≡ ShelfFault → ⊥) → (notes notes' : FaultCounts) → Counts fails notes notes'
    → CountsOfNotes (tells_unmade makes status || false) fails notes notes'
untold_files nothing fails status other notes notes' counts = counts
untold_files files fails status other notes notes' counts = subst (λ (told : Bool). CountsOfNotes (told || false) fails notes notes') (sym (no_files status other)) counts
untold_files files_of_dumps fails status other notes notes' counts = subst (λ (told : Bool). CountsOfNotes (told || false) fails notes notes') (sym (no_files status other)) counts

module _ {source source' shelf image image' notes notes' maker : FaultCounts} where
  -- a run over the source, which touches neither the shelf nor what makes files
  pub run-of-source : (dumps : Bool) (makes : Making) (status : Status) → (status ≡ ShelfFault → ⊥) → CountsBy (source_blame status) (three_counts source image notes) (three_counts source' image' notes')
      → CountsOfRun dumps makes false status (all_counts source shelf image notes maker) (all_counts source' shelf image' notes' maker)
  run-of-source dumps makes status other c =
      record { source = c.source; files = still_files dumps makes status other shelf maker; image = c.image; notes = untold_files makes _ status other notes notes' c.notes }

memory-other : Memory ≡ ShelfFault → ⊥
memory-other same = cc

-- there was no memory to begin
pub memoryless : (dumps : Bool) (makes : Making) (source shelf image notes maker : FaultCounts)
    → CountsOfRun dumps makes false Memory (all_counts source shelf image notes maker) (all_counts source shelf image notes maker)
memoryless dumps makes source shelf image notes maker = run-of-source dumps makes Memory memory-other (CountsBy-none (three_counts source image notes))

module _ {source shelf shelf' image image' notes notes' maker : FaultCounts} where
  -- one over the shelf, which touches neither the source nor what makes files
  pub run-of-shelf : (dumps : Bool) (status : Status) → (status ≡ ReadFault → ⊥) → CountsOnShelf dumps status (three_counts shelf image notes) (three_counts shelf' image' notes')
      → CountsOfRun dumps nothing false status (all_counts source shelf image notes maker) (all_counts source shelf' image' notes' maker)
  run-of-shelf dumps AllGood other c = record { source = Counts-none source; files = (c.shelf, Counts-none maker); image = c.image; notes = c.notes }
  run-of-shelf dumps NotAllGood other c = record { source = Counts-none source; files = (c.shelf, Counts-none maker); image = c.image; notes = c.notes }
  run-of-shelf dumps Refused other c = record { source = Counts-none source; files = (c.shelf, Counts-none maker); image = c.image; notes = c.notes }
  run-of-shelf dumps Usage other c = record { source = Counts-none source; files = (c.shelf, Counts-none maker); image = c.image; notes = c.notes }
  run-of-shelf dumps ReadFault other c = absurd (other refl)
  run-of-shelf dumps ImageFault other c = record { source = Counts-none source; files = (c.shelf, Counts-none maker); image = c.image; notes = c.notes }
  run-of-shelf dumps NotesFault other c = record { source = Counts-none source; files = (c.shelf, Counts-none maker); image = c.image; notes = c.notes }
  run-of-shelf dumps Memory other c = record { source = Counts-none source; files = (c.shelf, Counts-none maker); image = c.image; notes = c.notes }
  run-of-shelf dumps ShelfFault other c = record { source = Counts-none source; files = (c.shelf, Counts-none maker); image = c.image; notes = c.notes }

-- over the source no fault is the shelf's
pub no-shelf : {A V W N : Type 0} {work : Work V} {status : Status} {before after : Outside A V W N} → Does work status before after → (work.ends ShelfFault → ⊥)
    → status ≡ ShelfFault → ⊥
no-shelf {work = work} did never same = never (subst work.ends same did.answer)
