-- What `archive` did: all was kept of a disk of its dumps, as files of a folder, and the image got
-- the line of its summary.
use Rattle.std.specs.Prelude.{ℕ, List, codes, Option, Result, Ok, Err}
use Rattle.disk_archive.specs.Answers.{SaysOfArchive, ShelfDid, archive_blame}
use Rattle.disk_archive.specs.Finding.{Asked}
use Rattle.disk_archive.specs.declared.fault.ArchiveFault.{ArchiveFault}
use Rattle.disk_archive.specs.declared.fault.ArchiveFault.TheVariants.{Exists, FileFault}
use Rattle.disk_archive.specs.declared.fault.ArchiveFault.TheVariants.{FolderFault, Memory, NoDisk}
use Rattle.disk_archive.specs.declared.fault.ArchiveFault.TheVariants.{NoFiles, OutputFault}
use Rattle.disk_archive.specs.declared.names.KeptFile.{KeptFile}
use Rattle.disk_archive.specs.declared.names.KeptFile.TheVariants.{Image, Picture, Report, Summary}
use Rattle.flux_base.specs.Blames.{CountsBy, no_counts, three_counts}
use Rattle.flux_base.specs.Moments.{Moment}
use Rattle.flux_base.specs.declared.status.Status.{Status}
use Rattle.flux_base.specs.declared.status.Status.TheVariants.{ImageFault, Memory as NoMemory}
use Rattle.flux_engine.specs.declared.fault.Stopped.TheVariants.{Refused}
use Rattle.track_shelf.specs.Files.{File}
use Rattle.flux_cli.specs.Endings.{EndsBy, EndsFault, ends, refuses}
use Rattle.flux_cli.specs.MakingWork.{TellsUnmade}
use Rattle.flux_cli.specs.World.{World}

-- the line on a file that was not made, or not all of it
abbrev pub unmade_text : KeptFile → List ℕ
unmade_text Report = codes "failed report\n"
unmade_text Image = codes "failed image\n"
unmade_text Picture = codes "failed picture\n"
unmade_text Summary = codes "failed summary\n"

-- how the answer ends the command: by the status, and by a line of what was not done
abbrev pub EndsKeeping : {N : Type 0} → Option (List File) → (dumps : List (List ℕ))
    → Result Status ArchiveFault → Status → (before after : Moment N) → Type 0
EndsKeeping told dumps (Ok kept) status before after = EndsBy (ends kept) status before after
EndsKeeping told dumps (Err Memory) status before after =
    EndsBy (ends NoMemory) status before after
EndsKeeping told dumps (Err Exists) status before after =
    TellsUnmade (codes "refused folder exists\n") status before after
EndsKeeping told dumps (Err (NoFiles empty)) status before after =
    EndsFault told dumps (Refused empty) status before after
EndsKeeping told dumps (Err NoDisk) status before after =
    EndsBy (refuses (codes "refused no format\n")) status before after
EndsKeeping told dumps (Err FolderFault) status before after =
    TellsUnmade (codes "failed folder\n") status before after
EndsKeeping told dumps (Err (FileFault file)) status before after =
    TellsUnmade (unmade_text file) status before after
EndsKeeping told dumps (Err OutputFault) status before after =
    EndsBy (ends ImageFault) status before after

-- The disk was kept as the answer says, which ended the command. All that the shelf did is that
-- files failed, which the answer tells; and what makes files, or the image, failed as it blames
-- them.
pub record Keeps {S W N H M : Type 0} (asked : Asked) (status : Status)
    (before after : World S W N H M) : Type 0 where
  pub answer : Result Status ArchiveFault
  pub says : SaysOfArchive asked before.shelf.seen after.shelf.seen before.maker.made
      after.maker.made before.image.bytes after.image.bytes answer
  pub shelf : ShelfDid before.shelf.seen after.shelf.seen answer
  pub blames : CountsBy (archive_blame answer)
      (three_counts before.maker.counts before.image.counts no_counts)
      (three_counts after.maker.counts after.image.counts no_counts)
  pub ends : EndsKeeping after.shelf.seen.told.files asked.dumps answer status before.notes
      after.notes
