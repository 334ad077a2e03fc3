-- What a command that makes files answers: whom it blames, and how often each object of the run failed.
use Rattle.std.proofs.Common.{ℕ, true, false, List, [], Ok, Err, is_err, refl, sym, subst}
use Rattle.disk_files.specs.Answers.{Answer, WritesFiles}
use Rattle.disk_files.specs.Blamed.{files_blame}
use Rattle.disk_files.specs.Files.{DiskFolder}
use Rattle.disk_files.specs.declared.fault.FilesFault.TheVariants.{Exists, FileFault, FolderFault, ReadFault as Unread, WrongSize}
use Rattle.flux_base.specs.Blames.{Blame, CountsBy, OutsideCounts, no_one, the_image, the_source, three_counts}
use Rattle.flux_base.specs.Counts.{FaultCounts}
use Rattle.flux_base.specs.Moments.{Moment}
use Rattle.flux_base.specs.declared.status.Status.{Status}
use Rattle.flux_base.specs.declared.status.Status.TheVariants.{AllGood, NotAllGood, Refused, Usage, ReadFault, ImageFault, NotesFault, Memory, ShelfFault}
use Rattle.flux_base.specs.lemmas.Counting.{Counts-none, Counts-then}
use Rattle.sector_images.specs.declared.format.Format.{Format}
use Rattle.file_maker.specs.Made.{Made}
use Rattle.flux_cli.proofs.EndingLaws.{ends-with}
use Rattle.flux_cli.specs.Blamed.{CountsOfRun, all_counts, files}
use Rattle.flux_cli.specs.Endings.{EndsBy, refuses}
use Rattle.flux_cli.specs.FilesWork.{IsOfTracks, files_ending}
use Rattle.stream_files.specs.Answers.{Answer as SplitAnswer, SplitsStreams}
use Rattle.stream_files.specs.Blamed.{split_blame}
use Rattle.stream_files.specs.Streams.{SplitFolder}
use Rattle.stream_files.specs.declared.fault.SplitFault.TheVariants.{NoName, Exists as SplitExists, FileFault as SplitFileFault, FolderFault as SplitFolderFault, ReadFault as SplitUnread, Refused as SplitRefused}
use Rattle.stream_files.specs.declared.heads.Heads.{Heads}
use Rattle.flux_cli.specs.SplitWork.{IsOfNames, split_ending}
use Rattle.flux_cli.specs.MakingWork.{EndsMaking, MakingEnding, all_made, refused, unmade, unread}
use Rattle.std.specs.Prelude.{Option}

-- what makes files stands in the image's place
abbrev pub making_blame : MakingEnding → Blame
making_blame all_made = no_one
making_blame unread = the_source
making_blame (refused line) = no_one
making_blame (unmade line) = the_image

-- whom an answer of files blames, its ending does
pub files-blame : {before after : OutsideCounts} (format : Format) (answer : Answer) → CountsBy (files_blame answer) before after → CountsBy (making_blame (files_ending format answer)) before after
files-blame format (Ok _) counts = counts
files-blame format (Err Unread) counts = counts
files-blame format (Err (WrongSize read wanted)) counts = counts
files-blame format (Err (Exists number)) counts = counts
files-blame format (Err FolderFault) counts = counts
files-blame format (Err (FileFault number)) counts = counts

-- the tracks that it names are the format's
pub of-tracks : {left left' : Option (List ℕ)} {made made' : Option Made} (disk : DiskFolder) (answer : Answer) → WritesFiles disk left left' made made' answer → IsOfTracks disk.format answer
of-tracks disk (Ok _) wrote = tt
of-tracks disk (Err Unread) wrote = tt
of-tracks disk (Err (WrongSize read wanted)) wrote = tt
of-tracks disk (Err (Exists number)) wrote = wrote.says.1
of-tracks disk (Err FolderFault) wrote = tt
of-tracks disk (Err (FileFault number)) wrote = wrote.says.2

pub split-blame : {before after : OutsideCounts} (heads : Heads) (answer : SplitAnswer) → CountsBy (split_blame answer) before after → CountsBy (making_blame (split_ending heads answer)) before after
split-blame heads (Ok count) counts = counts
split-blame heads (Err SplitUnread) counts = counts
split-blame heads (Err (SplitRefused stream block fault)) counts = counts
split-blame heads (Err (NoName stream)) counts = counts
split-blame heads (Err (SplitExists stream)) counts = counts
split-blame heads (Err SplitFolderFault) counts = counts
split-blame heads (Err (SplitFileFault stream)) counts = counts

-- the streams that it names have names
pub of-names : {left left' : Option (List ℕ)} {made made' : Option Made} (split : SplitFolder) (answer : SplitAnswer) → SplitsStreams split left left' made made' answer → IsOfNames split.heads answer
of-names split (Ok count) did = tt
of-names split (Err SplitUnread) did = tt
of-names split (Err (SplitRefused stream block fault)) did = tt
of-names split (Err (NoName stream)) did = (did.says [] (λ of. refl)).1
of-names split (Err (SplitExists stream)) did = (did.says [] (λ of. refl)).0
of-names split (Err SplitFolderFault) did = tt
of-names split (Err (SplitFileFault stream)) did = (did.says [] (λ of. refl)).0

-- the counts of all by how the command ended
module _ {N : Type 0} (source source' shelf image notes maker maker' : FaultCounts) where
  abbrev Counted : Status → Moment N → Type 0
  Counted status now = CountsOfRun false files false status (all_counts source shelf image notes maker) (all_counts source' shelf image now.counts maker')

  abbrev Blamed : Blame → Moment N → Type 0
  Blamed blame now = CountsBy blame (three_counts source maker notes) (three_counts source' maker' now.counts)

  refused-counts : (line : List ℕ) (status : Status) (before after : Moment N) → Blamed no_one before → EndsBy (refuses line) status before after → Counted status after
  refused-counts line Refused before after c puts = record { source = c.source; files = (Counts-none shelf, c.image); image = Counts-none image; notes = Counts-then false c.notes puts.counts }
  refused-counts line NotesFault before after c (failed, puts) = record { source = c.source; files = (Counts-none shelf, c.image); image = Counts-none image; notes = Counts-then true c.notes puts.counts }
  refused-counts line AllGood before after c never = absurd never
  refused-counts line NotAllGood before after c never = absurd never
  refused-counts line Usage before after c never = absurd never
  refused-counts line ReadFault before after c never = absurd never
  refused-counts line ImageFault before after c never = absurd never
  refused-counts line Memory before after c never = absurd never
  refused-counts line ShelfFault before after c never = absurd never

  pub making-counts : (ending : MakingEnding) (status : Status) (before after : Moment N) → Blamed (making_blame ending) before → EndsMaking ending status before after → Counted status after
  making-counts all_made status before after c is =
      ends-with Counted AllGood status before after (record { source = c.source; files = (Counts-none shelf, c.image); image = Counts-none image; notes = c.notes }) is
  making-counts unread status before after c is =
      ends-with Counted ReadFault status before after (record { source = c.source; files = (Counts-none shelf, c.image); image = Counts-none image; notes = c.notes }) is
  making-counts (refused line) status before after c is = refused-counts line status before after c is
  making-counts (unmade line) status before after c (same, (told, puts)) =
      subst (λ (s : Status). Counted s after) (sym same)
      (record { source = c.source; files = (Counts-none shelf, c.image); image = Counts-none image; notes = (is_err told, Counts-then (is_err told) c.notes puts.counts) })
