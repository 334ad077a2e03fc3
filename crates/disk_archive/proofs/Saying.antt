-- What keeping a disk answers, by what was read and what was made.
use Rattle.std.proofs.Common.{ℕ, List, Option, Err, refl}
use Rattle.dump_reading.specs.Files.{ShelfNow}
use Rattle.file_maker.specs.Made.{Made}
use Rattle.flux_base.specs.Blames.{CountsBy, OutsideCounts}
use Rattle.flux_base.specs.declared.status.Status.{Status}
use Rattle.flux_base.specs.lemmas.Blaming.{CountsBy-none}
use Rattle.disk_archive.specs.Answers.{IsUnheld, MakesKept, SaysOfArchive, archive_blame}
use Rattle.disk_archive.specs.Finding.{Asked}
use Rattle.disk_archive.specs.Kept.{Kept}
use Rattle.disk_archive.specs.declared.fault.ArchiveFault.{ArchiveFault}
use Rattle.disk_archive.specs.declared.fault.ArchiveFault.TheVariants.{Exists, FileFault, FolderFault, Memory, NoDisk, NoFiles, OutputFault}

module _ (asked : Asked) (start now : ShelfNow) where
  -- nothing was made of a disk that does not lie in memory
  pub unheld-says : (made : Option Made) (line : Option (List ℕ)) (fault : ArchiveFault) → IsUnheld asked start now fault → SaysOfArchive asked start now made made line line (Err fault)
  unheld-says made line Memory some = (refl, refl)
  unheld-says made line (NoFiles empty) (lacks, some) = (lacks, (refl, refl))
  unheld-says made line NoDisk (lacks, some) = (lacks, (refl, refl))
  unheld-says made line Exists never = absurd never
  unheld-says made line FolderFault never = absurd never
  unheld-says made line (FileFault file) never = absurd never
  unheld-says made line OutputFault never = absurd never

  pub unheld-blames : (counts : OutsideCounts) (fault : ArchiveFault) → IsUnheld asked start now fault → CountsBy (archive_blame {A = Status} (Err fault)) counts counts
  unheld-blames counts Memory some = CountsBy-none counts
  unheld-blames counts (NoFiles empty) lacks = CountsBy-none counts
  unheld-blames counts NoDisk lacks = CountsBy-none counts
  unheld-blames counts Exists never = absurd never
  unheld-blames counts FolderFault never = absurd never
  unheld-blames counts (FileFault file) never = absurd never
  unheld-blames counts OutputFault never = absurd never

  -- not all was made of one that does
  pub kept-says : (made made' : Option Made) (line line' : Option (List ℕ)) (kept : Kept) (fault : ArchiveFault) → MakesKept asked start now made made' line line' kept (Err fault)
      → SaysOfArchive asked start now made made' line line' (Err fault)
  kept-says made made' line line' kept FolderFault makes = (kept, makes)
  kept-says made made' line line' kept (FileFault file) makes = (kept, makes)
  kept-says made made' line line' kept OutputFault makes = (kept, makes)
  kept-says made made' line line' kept Memory makes = absurd makes.2
  kept-says made made' line line' kept (NoFiles empty) makes = absurd makes.2
  kept-says made made' line line' kept NoDisk makes = absurd makes.2
  kept-says made made' line line' kept Exists makes = absurd makes.2

-- the blame is the same, whatever is given where all was made
pub kept-blames : (before after : OutsideCounts) (fault : ArchiveFault) → CountsBy (archive_blame {A = Unit {0}} (Err fault)) before after → CountsBy (archive_blame {A = Status} (Err fault)) before after
kept-blames before after FolderFault counts = counts
kept-blames before after (FileFault file) counts = counts
kept-blames before after OutputFault counts = counts
kept-blames before after Memory counts = counts
kept-blames before after (NoFiles empty) counts = counts
kept-blames before after NoDisk counts = counts
kept-blames before after Exists counts = counts
