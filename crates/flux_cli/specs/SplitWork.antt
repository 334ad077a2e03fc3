-- The work of `split`: joined streams are read, and a file is made of each.
use Rattle.std.specs.Prelude.{◌≡◌, ◌<◌, ◌-◌, ℕ, List, codes, Option, Ok, Err}
use Rattle.file_maker.specs.Made.{Made}
use Rattle.kryo_stream.specs.Reads.{SourceMoment}
use Rattle.sector_report.specs.Lines.{refused_text}
use Rattle.stream_files.specs.Answers.{Answer, IsThere, SplitsStreams}
use Rattle.stream_files.specs.Streams.{SplitFolder, most_streams, stream_track}
use Rattle.stream_files.specs.declared.fault.SplitFault.TheVariants.{Exists, FileFault}
use Rattle.stream_files.specs.declared.fault.SplitFault.TheVariants.{FolderFault, NoName, ReadFault}
use Rattle.stream_files.specs.declared.fault.SplitFault.TheVariants.{Refused}
use Rattle.stream_files.specs.declared.heads.Heads.{Heads}
use Rattle.flux_cli.specs.FilesTold.{beyond_text, exists_text, failed_text}
use Rattle.flux_cli.specs.MakingWork.{MakingEnding, MakingWork, all_made, refused, unmade, unread}

-- A stream that is refused is told as a track, by its number; one behind all that have names, by
-- the name of the last one.
abbrev pub split_ending : Heads → Answer → MakingEnding
split_ending heads (Ok count) = all_made
split_ending heads (Err ReadFault) = unread
split_ending heads (Err (Refused k block fault)) = refused (refused_text k block fault)
split_ending heads (Err (NoName k)) = refused (beyond_text k (stream_track heads (k - 1)))
split_ending heads (Err (Exists k)) = refused (exists_text k (stream_track heads k))
split_ending heads (Err FolderFault) = unmade (codes "failed folder\n")
split_ending heads (Err (FileFault k)) = unmade (failed_text k (stream_track heads k))

-- a stream that it names has a name, or stands behind the last that has
abbrev pub IsOfNames : Heads → Answer → Type 0
IsOfNames heads (Err (Exists k)) = k < most_streams heads
IsOfNames heads (Err (FileFault k)) = k < most_streams heads
IsOfNames heads (Err (NoName k)) = k ≡ most_streams heads
IsOfNames heads _ = Unit {0}

-- The streams were taken and the files were made as the answer says; and nothing was read where a
-- file was there.
pub record SplitsAsNeeded (split : SplitFolder) (start now : SourceMoment)
    (made made' : Option Made) (answer : Answer) : Type 0 where
  pub splits : SplitsStreams split start.left now.left made made' answer
  pub unread : IsThere answer → now ≡ start

abbrev pub split_of : (folder : List ℕ) → Heads → SplitFolder
split_of folder heads = record { folder = folder; heads = heads }

abbrev pub split_work : (folder : List ℕ) → Heads → MakingWork
split_work folder heads = record {
  answers = Answer;
  says = SplitsAsNeeded (split_of folder heads);
  ending = split_ending heads;
}
