-- The work of `write --folder`: an image is read, and a file is made of each track's stream.
use Rattle.std.specs.Prelude.{◌<◌, ℕ, List, codes, length, Option, Ok, Err}
use Rattle.disk_files.specs.Answers.{Answer, WritesFiles}
use Rattle.disk_files.specs.Files.{DiskFolder}
use Rattle.disk_files.specs.declared.fault.FilesFault.TheVariants.{Exists, FileFault, FolderFault}
use Rattle.disk_files.specs.declared.fault.FilesFault.TheVariants.{ReadFault, WrongSize}
use Rattle.file_maker.specs.Made.{Made}
use Rattle.flux_engine.specs.Needed.{ReadsUpTo}
use Rattle.flux_engine.specs.Recordings.{track_at}
use Rattle.flux_engine.specs.Writes.{most_read}
use Rattle.flux_help.specs.Pages.{number_text}
use Rattle.kryo_stream.specs.Reads.{SourceMoment}
use Rattle.sector_images.specs.Places.{tracks}
use Rattle.sector_images.specs.declared.format.Format.{Format}
use Rattle.sector_report.specs.Lines.{image_text}
use Rattle.flux_cli.specs.FilesTold.{exists_text, failed_text}
use Rattle.flux_cli.specs.MakingWork.{MakingEnding, MakingWork, all_made, refused, unmade, unread}

-- where the files are made, by this program
abbrev pub files_of : Format → (folder : List ℕ) → DiskFolder
files_of format folder = record { folder = folder; format = format; version = number_text }

abbrev pub files_ending : Format → Answer → MakingEnding
files_ending format (Ok _) = all_made
files_ending format (Err ReadFault) = unread
files_ending format (Err (WrongSize read wanted)) = refused (image_text read wanted)
files_ending format (Err (Exists number)) = refused (exists_text number (track_at format number))
files_ending format (Err FolderFault) = unmade (codes "failed folder\n")
files_ending format (Err (FileFault number)) =
    unmade (failed_text number (track_at format number))

-- a track that it names is one of the format's
abbrev pub IsOfTracks : Format → Answer → Type 0
IsOfTracks format (Err (Exists number)) = number < length (tracks format)
IsOfTracks format (Err (FileFault number)) = number < length (tracks format)
IsOfTracks format _ = Unit {0}

-- The image was taken and the files were made as the answer says; and the source was read only
-- where no more bytes than an image has were given.
pub record WritesAsNeeded (disk : DiskFolder) (start now : SourceMoment) (made made' : Option Made)
    (answer : Answer) : Type 0 where
  pub wrote : WritesFiles disk start.left now.left made made' answer
  pub needed : ReadsUpTo (most_read disk.format) start now

abbrev pub files_work : Format → (folder : List ℕ) → MakingWork
files_work format folder = record {
  answers = Answer;
  says = WritesAsNeeded (files_of format folder);
  ending = files_ending format;
}
