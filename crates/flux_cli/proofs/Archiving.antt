-- A disk of its dumps of which all is kept: how often each object of the run failed.
use Rattle.std.proofs.Common.{◌≡◌, ℕ, Bool, true, false, List, Option, Result, Ok, Err, is_err, refl, subst, sym}
use Rattle.disk_archive.specs.Answers.{ShelfDid, archive_blame}
use Rattle.disk_archive.specs.declared.fault.ArchiveFault.{ArchiveFault}
use Rattle.disk_archive.specs.declared.fault.ArchiveFault.TheVariants.{Exists, FileFault, FolderFault, Memory as NoMemory, NoDisk, NoFiles, OutputFault}
use Rattle.dump_reading.specs.Files.{ShelfNow}
use Rattle.flux_base.specs.Blames.{Blame, CountsBy, no_counts, no_one, the_source, three_counts}
use Rattle.flux_base.specs.Counts.{Counts, FaultCounts}
use Rattle.flux_base.specs.Moments.{Moment}
use Rattle.flux_base.specs.declared.status.Status.{Status}
use Rattle.flux_base.specs.declared.status.Status.TheVariants.{AllGood, NotAllGood, Refused, Usage, ReadFault, ImageFault, NotesFault, Memory, ShelfFault}
use Rattle.flux_base.specs.lemmas.Counting.{Counts-none}
use Rattle.track_shelf.specs.Files.{File}
use Rattle.flux_cli.proofs.EndingLaws.{ends-with}
use Rattle.flux_cli.specs.ArchiveRuns.{EndsKeeping}
use Rattle.flux_cli.specs.Blamed.{CountsOfKeeping, CountsOfRun, FailsKept, IsUnmade, all_counts, files_of_dumps}
use Rattle.flux_cli.specs.Endings.{EndsBy, refuses}
use Rattle.flux_cli.specs.MakingWork.{TellsUnmade}

-- the counts of all by how the command ended
module _ {N : Type 0} (source : FaultCounts) (start now : ShelfNow) (image image' maker maker' : FaultCounts) (before after : Moment N) where
  abbrev Counted : Status → Moment N → Type 0
  Counted status later = CountsOfRun true files_of_dumps false status (all_counts source start.counts image before.counts maker) (all_counts source now.counts image' later.counts maker')

  abbrev Blamed : Blame → Type 0
  Blamed blame = CountsBy blame (three_counts maker image no_counts) (three_counts maker' image' no_counts)

  keeping : {answer : Result Status ArchiveFault} (status : Status) (unmade : Bool) → (did : ShelfDid start now answer) → FailsKept status did.often → IsUnmade status unmade → Counts unmade maker maker'
      → CountsOfKeeping status start.counts now.counts maker maker'
  keeping status unmade did fails is making = record { often = did.often; fails = fails; many = did.shelf.counts; unmade = unmade; is_unmade = is; making = making }

  -- all was kept
  kept-counts : (kept : Status) → ShelfDid start now (Ok kept) → Blamed no_one → Counted kept before
  kept-counts AllGood did c = record { source = Counts-none source; files = keeping AllGood false did did.tells refl c.source; image = c.image; notes = Counts-none before.counts }
  kept-counts NotAllGood did c = record { source = Counts-none source; files = keeping NotAllGood false did did.tells refl c.source; image = c.image; notes = Counts-none before.counts }
  kept-counts ShelfFault did c = record { source = Counts-none source; files = keeping ShelfFault false did tt tt c.source; image = c.image; notes = (false, Counts-none before.counts) }
  kept-counts Refused did c = absurd did.tells
  kept-counts Usage did c = absurd did.tells
  kept-counts ReadFault did c = absurd did.tells
  kept-counts ImageFault did c = absurd did.tells
  kept-counts NotesFault did c = absurd did.tells
  kept-counts Memory did c = absurd did.tells

  -- a line says why nothing was
  refused-counts : {fault : ArchiveFault} (line : List ℕ) (status : Status) → ShelfDid start now (Err fault) → Blamed no_one → EndsBy (refuses line) status before after → Counted status after
  refused-counts line Refused did c puts = record { source = Counts-none source; files = keeping Refused false did tt refl c.source; image = c.image; notes = puts.counts }
  refused-counts line NotesFault did c (failed, puts) = record { source = Counts-none source; files = keeping NotesFault false did tt refl c.source; image = c.image; notes = puts.counts }
  refused-counts line AllGood did c never = absurd never
  refused-counts line NotAllGood did c never = absurd never
  refused-counts line Usage did c never = absurd never
  refused-counts line ReadFault did c never = absurd never
  refused-counts line ImageFault did c never = absurd never
  refused-counts line Memory did c never = absurd never
  refused-counts line ShelfFault did c never = absurd never

  -- a line says what was not made
  unmade-counts : {fault : ArchiveFault} (line : List ℕ) (unmade : Bool) (status : Status) → ShelfDid start now (Err fault) → Counts unmade maker maker' → Counts false image image'
      → TellsUnmade line status before after → Counted status after
  unmade-counts line unmade status did making still (same, (told, puts)) =
      subst (λ (s : Status). Counted s after) (sym same)
      (record { source = Counts-none source; files = keeping ShelfFault unmade did tt tt making; image = still; notes = (is_err told, puts.counts) })

  pub keeping-counts : (told : Option (List File)) (dumps : List (List ℕ)) (answer : Result Status ArchiveFault) (status : Status) → ShelfDid start now answer → Blamed (archive_blame answer)
      → EndsKeeping told dumps answer status before after → Counted status after
  keeping-counts told dumps (Ok kept) status did c is = ends-with Counted kept status before after (kept-counts kept did c) is
  keeping-counts told dumps (Err NoMemory) status did c is =
      ends-with Counted Memory status before after
      (record { source = Counts-none source; files = keeping Memory false did tt refl c.source; image = c.image; notes = Counts-none before.counts }) is
  keeping-counts told dumps (Err Exists) status did c is = unmade-counts _ false status did c.source c.image is
  keeping-counts told dumps (Err (NoFiles empty)) status did c is = refused-counts _ status did c is.ends
  keeping-counts told dumps (Err NoDisk) status did c is = refused-counts _ status did c is
  keeping-counts told dumps (Err FolderFault) status did c is = unmade-counts _ true status did c.source c.image is
  keeping-counts told dumps (Err (FileFault file)) status did c is = unmade-counts _ true status did c.source c.image is
  keeping-counts told dumps (Err OutputFault) status did c is =
      ends-with Counted ImageFault status before after
      (record { source = Counts-none source; files = keeping ImageFault false did tt refl c.source; image = c.image; notes = Counts-none before.counts }) is
