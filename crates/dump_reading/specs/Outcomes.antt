-- What reading a disk of its dumps may answer, and what that says of the dumps and
-- of the bytes that were written.
use Rattle.std.specs.Prelude.{◌≡◌, ◌<◌, ◌⊎◌, ℕ, ◌+◌, ◌-◌, ◌*◌, Bool, true, false, cond, List, []}
use Rattle.std.specs.Prelude.{◌∷◌, ◌++◌, get_or, length, Option, Some, None, Result, Ok, Err}
use Rattle.std.specs.Io.KnownBytes.{Appends}
use Rattle.std.specs.List.{list_any}
use Rattle.flux_base.specs.declared.track.TrackId.{TrackId}
use Rattle.sector_images.specs.Places.{tracks}
use Rattle.sector_images.specs.declared.format.Format.{Format}
use Rattle.sector_report.specs.declared.totals.Totals.{Totals}
use Rattle.turn_merge.specs.Others.{NotedOther}
use Rattle.track_shelf.specs.Files.{File, has_track}
use Rattle.track_shelf.specs.Stepping.{file_track}
use Rattle.track_shelf.specs.Told.{with_failed}
use Rattle.track_shelf.specs.declared.stepping.Stepping.{Stepping}
use Rattle.flux_engine.specs.Answers.{AppendsAndPart}
use Rattle.flux_engine.specs.Counts.{AreOthersOver, told_count, whole_count}
use Rattle.flux_engine.specs.Cut.{CutBySink}
use Rattle.flux_engine.specs.Disks.{images, lines, totals_over}
use Rattle.flux_engine.specs.LoopProgress.{lost_count, passed_count, streams_over}
use Rattle.flux_engine.specs.Plans.{ArePlannedParts, PartOf, Seen}
use Rattle.flux_engine.specs.SecondSinks.{SecondNow}
use Rattle.flux_engine.specs.Tracks.{TrackPart}
use Rattle.flux_engine.specs.declared.plan.Clocks.{Clocks}
use Rattle.flux_engine.specs.declared.plan.Clocks.TheVariants.{Both}
use Rattle.flux_engine.specs.declared.fault.Stopped.{Stopped}
use Rattle.flux_engine.specs.declared.fault.Stopped.TheVariants.{ReadFault, ImageFault}
use Rattle.flux_engine.specs.declared.fault.Stopped.TheVariants.{NotesFault, Refused}
use Rattle.flux_engine.specs.declared.plan.Plan.{Plan}
use Rattle.flux_engine.specs.declared.track_part.PartFault.{PartFault}
use Rattle.flux_engine.specs.declared.track_part.PartFault.TheVariants.{ImageFault as PartImageFault}
use Rattle.flux_engine.specs.declared.track_part.PartFault.TheVariants.{NotesFault as PartNotesFault}
use Rattle.dump_reading.specs.Beside.{AreBeside, LinesOf, beside_lines, beside_tracks, lines_at}
use Rattle.dump_reading.specs.Beside.{lines_to, looks_beside, of_beside, told_beside}
use Rattle.dump_reading.specs.DumpStreams.{AreOfDumps, failed_paths, of_disk}
use Rattle.dump_reading.specs.Files.{CountsMany, ShelfNow}
use Rattle.dump_reading.specs.Reports.{end_text, plan_by, read_part}
use Rattle.dump_reading.specs.declared.dumps.Dumps.{Dumps}
use Rattle.dump_reading.specs.declared.fault.NoFiles.{NoFiles}
use Rattle.dump_reading.specs.declared.totals.DumpTotals.{DumpTotals}
use Rattle.dump_reading.specs.declared.looks.Looks.{Looks}
use Rattle.dump_reading.specs.declared.looks.Looks.TheVariants.{Always}

-- a dump has a track: its file, or an SCP file that has it
abbrev pub has_file : Stepping → List File → (dump : List ℕ) → TrackId → Bool
has_file stepping files dump track =
    has_track files dump (file_track stepping track)

-- it has that of one of the format's tracks at least
unfoldable pub has_any : Stepping → List File → Format → (dump : List ℕ) → Bool
has_any stepping files format dump = list_any (has_file stepping files dump) (tracks format)

-- what is asked: how the drive stepped, the dumps, the format, by which clocks each stream is read,
-- and when files beside the format's tracks are looked at
pub record DumpDisk : Type 0 where
  pub stepping : Stepping
  pub dumps : List (List ℕ)
  pub format : Format
  pub clocks : Clocks
  pub looks : Looks

abbrev pub disk_by : Clocks → Looks → Dumps → Format → DumpDisk
disk_by clocks looks dumps format =
    record {
      stepping = dumps.stepping;
      dumps = dumps.names.now;
      format = format;
      clocks = clocks;
      looks = looks;
    }

-- the same by both clocks, and at all files
abbrev pub disk_of : Dumps → Format → DumpDisk
disk_of dumps format = disk_by Both Always dumps format

abbrev pub plan_of : DumpDisk → Plan
plan_of disk = plan_by disk.clocks (length disk.dumps)

-- the dump of this number has one of the disk's files
abbrev pub has_files : DumpDisk → List File → ℕ → Bool
has_files disk files number = has_any disk.stepping files disk.format (get_or disk.dumps number [])

-- this is the first dump that has none of them; or each has one
abbrev pub IsFirstEmpty : DumpDisk → List File → Option ℕ → Type 0
IsFirstEmpty disk files (Some number) =
    (has_files disk files number ≡ false) × ((k : ℕ) → k < number → has_files disk files k ≡ true)
IsFirstEmpty disk files None = (k : ℕ) → k < length disk.dumps → has_files disk files k ≡ true

-- the same, where the files are told
abbrev pub IsToldEmpty : DumpDisk → Option (List File) → Option ℕ → Type 0
IsToldEmpty disk told number =
    (files : List File) → told ≡ Some files → IsFirstEmpty disk files number

-- what dumps come to: the bytes of the image and of the report, and the numbers
pub record DumpsRead : Type 0 where
  pub image : List ℕ
  pub notes : List ℕ
  pub totals : DumpTotals

-- The first streams of the dumps, in order, and what becomes of the tracks of which these are
-- all the streams: so many tracks.
pub record AreTracksBy (of : PartOf) (disk : DumpDisk) (told : Option (List File))
    (streams : List Seen) (parts : List TrackPart) : Type 0 where
  pub all : length streams ≡ length parts * length disk.dumps
  pub are : AreOfDumps (of_disk disk.stepping disk.dumps (length disk.dumps) disk.format) told
      streams
  pub each : ArePlannedParts (plan_of disk) of disk.format (streams_over (plan_of disk) streams)
      parts

-- The streams of the dumps, in order, what becomes of all tracks of the format,
-- and the other headers of each.
pub record AreAllBy (of : PartOf) (disk : DumpDisk) (told : Option (List File))
    (streams : List Seen) (parts : List TrackPart) (others : List (List NotedOther)) : Type 0 where
  pub many : length parts ≡ length (tracks disk.format)
  pub read : AreTracksBy of disk told streams parts
  pub many_others : length others ≡ length (tracks disk.format)
  pub others_are : AreOthersOver (plan_of disk) disk.format (streams_over (plan_of disk) streams)
      others

-- what came of the files of the tracks beside the format's, and all headers in each of these tracks
pub record LookedBeside (disk : DumpDisk) (told : Option (List File)) : Type 0 where
  pub came : List Seen
  pub others : List (List NotedOther)
  pub are : AreBeside disk.stepping disk.dumps (plan_of disk) disk.format told came others

-- how many of these tracks are looked at: all, where that is asked for, or none
abbrev pub beside_count : DumpDisk → (sectors : Totals) → ℕ
beside_count disk sectors =
    cond (looks_beside disk.looks sectors) (length (beside_tracks disk.stepping disk.format)) 0

abbrev pub LookedAsAsked : {disk : DumpDisk} {told : Option (List File)} → (sectors : Totals)
    → LookedBeside disk told → Type 0
LookedAsAsked {disk} sectors beside = length beside.others ≡ beside_count disk sectors

-- the lines of those that were looked at
abbrev pub lines_of : LinesOf → {disk : DumpDisk} {told : Option (List File)}
    → LookedBeside disk told → List ℕ
lines_of of {disk} beside = lines_to of disk.stepping disk.dumps disk.format beside.came
    beside.others (length beside.others)

-- the numbers that these come to
abbrev pub numbers_of : (streams : List Seen) → List TrackPart → (others : List (List NotedOther))
    → (beside : List Seen) (names : List (List NotedOther)) → DumpTotals
numbers_of streams parts others beside names = record {
  sectors = totals_over parts;
  unread = passed_count streams + told_beside beside;
  lost = lost_count streams + lost_count beside;
  others = told_count (others ++ names);
  whole = whole_count (others ++ names);
}

-- What the dumps come to, by the files that are told: what becomes of each track, of the format and
-- beside it, and how that of all tracks makes up the bytes of both sinks.
pub record IsReadBy (of : PartOf) (beside_of : LinesOf)
    (whole : List TrackPart → (beside : List ℕ) → DumpTotals → DumpsRead) (disk : DumpDisk)
    (told : Option (List File)) (o : DumpsRead) : Type 0 where
  pub streams : List Seen
  pub parts : List TrackPart
  pub others : List (List NotedOther)
  pub all : AreAllBy of disk told streams parts others
  pub beside : LookedBeside disk told
  pub looked : LookedAsAsked (totals_over parts) beside
  pub is : o
      ≡ whole parts (lines_of beside_of beside)
      (numbers_of streams parts others beside.came beside.others)

-- the image, and the report with its last two lines
abbrev pub report_of : List TrackPart → (beside : List ℕ) → DumpTotals → DumpsRead
report_of parts beside totals =
    record {
      image = images parts;
      notes = lines parts ++ (beside ++ end_text totals);
      totals = totals;
    }

abbrev pub IsDumpsRead : DumpDisk → Option (List File) → DumpsRead → Type 0
IsDumpsRead disk told o = IsReadBy read_part beside_lines report_of disk told o

-- What the shelf did meanwhile. Of what it tells of itself nothing changed, but that the files of
-- these streams failed which are passed over for that, in the order in which they were read: none
-- is open that was not. As many of its calls failed, and no other.
pub record FilesFailed (disk : DumpDisk) (start now : ShelfNow)
    (streams beside : List Seen) : Type 0 where
  pub told : now.told ≡ with_failed
      (failed_paths (of_disk disk.stepping disk.dumps (length disk.dumps) disk.format) streams
      ++ failed_paths (of_beside disk.stepping disk.dumps disk.format) beside) start.told
  pub counts : CountsMany (lost_count streams + lost_count beside) start.counts now.counts

-- what becomes of all tracks was written
pub record HasTracksBy (of : PartOf) (beside_of : LinesOf) (disk : DumpDisk) (start now : ShelfNow)
    (image image' notes notes' : Option (List ℕ)) (totals : DumpTotals) : Type 0 where
  pub streams : List Seen
  pub parts : List TrackPart
  pub others : List (List NotedOther)
  pub all : AreAllBy of disk start.told.files streams parts others
  pub beside : LookedBeside disk start.told.files
  pub looked : LookedAsAsked (totals_over parts) beside
  pub shelf : FilesFailed disk start now streams beside.came
  pub image_grew : Appends image image' (images parts)
  pub notes_grew : Appends notes notes' (lines parts ++ lines_of beside_of beside)
  pub totals_are : totals ≡ numbers_of streams parts others beside.came beside.others

-- the same of two sinks as long as they take all
abbrev pub HasTracksSecond : PartOf → LinesOf → DumpDisk → (start now : ShelfNow)
    → (second second' : SecondNow) → DumpTotals → Type 0
HasTracksSecond of beside_of disk start now second second' totals =
    second'.sound ≡ true
    → HasTracksBy of beside_of disk start now second.image second'.image second.notes second'.notes
    totals

-- all of it was written
pub record WroteDumps (disk : DumpDisk) (start now : ShelfNow)
    (image image' notes notes' : Option (List ℕ)) (totals : DumpTotals) : Type 0 where
  pub outcome : DumpsRead
  pub is : IsDumpsRead disk start.told.files outcome
  pub shelf : FilesFailed disk start now is.streams is.beside.came
  pub image_grew : Appends image image' outcome.image
  pub notes_grew : Appends notes notes' outcome.notes
  pub totals_are : totals ≡ outcome.totals

-- this becomes of the first tracks, and nothing else was read
pub record WereRead (of : PartOf) (disk : DumpDisk) (start now : ShelfNow)
    (parts : List TrackPart) : Type 0 where
  pub streams : List Seen
  pub read : AreTracksBy of disk start.told.files streams parts
  pub shelf : FilesFailed disk start now streams []

-- what becomes of all tracks of the format was written, and of those beside them the first ones'
-- lines, and a part of the next one's
pub record WroteIntoBesideBy (of : PartOf) (beside_of : LinesOf) (disk : DumpDisk)
    (start now : ShelfNow) (image image' notes notes' : Option (List ℕ)) : Type 0 where
  pub streams : List Seen
  pub parts : List TrackPart
  pub others : List (List NotedOther)
  pub all : AreAllBy of disk start.told.files streams parts others
  pub beside : LookedBeside disk start.told.files
  pub asked : looks_beside disk.looks (totals_over parts) ≡ true
  pub some : 0 < length beside.others
  pub shelf : FilesFailed disk start now streams beside.came
  pub image_grew : Appends image image' (images parts)
  pub notes_grew : AppendsAndPart notes notes'
      (lines parts
      ++ lines_to beside_of disk.stepping disk.dumps disk.format beside.came beside.others
      (length beside.others - 1))
      (lines_at beside_of disk.stepping disk.dumps disk.format beside.came beside.others
      (length beside.others - 1))

-- a sink failed in a track, of which all files were read, or in the lines of those beside
abbrev pub CutOfDumps : PartFault → PartOf → LinesOf → DumpDisk → (start now : ShelfNow)
    → (image image' notes notes' : Option (List ℕ)) → Type 0
CutOfDumps cause of beside_of disk start now =
    CutBySink cause (λ parts next. WereRead of disk start now (parts ++ next ∷ []))
    (WroteIntoBesideBy of beside_of disk start now) (length (tracks disk.format))

-- what was written of the tracks where reading them stopped: a fault of a sink alone stops it; a
-- dump without files was told before
abbrev pub StopsBy : PartOf → LinesOf → DumpDisk → (start now : ShelfNow)
    → (image image' notes notes' : Option (List ℕ)) → Stopped NoFiles → Type 0
StopsBy of beside_of disk start now image image' notes notes' ReadFault = ⊥
StopsBy of beside_of disk start now image image' notes notes' (Refused empty) = ⊥
StopsBy of beside_of disk start now image image' notes notes' ImageFault =
    CutOfDumps PartImageFault of beside_of disk start now image image' notes notes'
StopsBy of beside_of disk start now image image' notes notes' NotesFault =
    CutOfDumps PartNotesFault of beside_of disk start now image image' notes notes'

-- all was written but the last two lines: of them a part that is shorter than they are
pub record WroteIntoEnd (disk : DumpDisk) (start now : ShelfNow)
    (image image' notes notes' : Option (List ℕ)) : Type 0 where
  pub streams : List Seen
  pub parts : List TrackPart
  pub others : List (List NotedOther)
  pub all : AreAllBy read_part disk start.told.files streams parts others
  pub beside : LookedBeside disk start.told.files
  pub looked : LookedAsAsked (totals_over parts) beside
  pub shelf : FilesFailed disk start now streams beside.came
  pub image_grew : Appends image image' (images parts)
  pub notes_grew : AppendsAndPart notes notes' (lines parts ++ lines_of beside_lines beside)
      (end_text (numbers_of streams parts others beside.came beside.others))

-- What an answer says. A dump without files is told before anything is read or written; a
-- file that fails ends nothing.
abbrev pub SaysOfDumps : DumpDisk → (start now : ShelfNow)
    → (image image' notes notes' : Option (List ℕ)) → Result DumpTotals (Stopped NoFiles) → Type 0
SaysOfDumps disk start now image image' notes notes' (Ok totals) =
    IsToldEmpty disk start.told.files None
    × WroteDumps disk start now image image' notes notes' totals
SaysOfDumps disk start now image image' notes notes' (Err ReadFault) = ⊥
SaysOfDumps disk start now image image' notes notes' (Err (Refused empty)) =
    (empty.dump < length disk.dumps) × IsToldEmpty disk start.told.files (Some empty.dump)
    × (now ≡ start) × (image' ≡ image) × (notes' ≡ notes)
SaysOfDumps disk start now image image' notes notes' (Err ImageFault) =
    StopsBy read_part beside_lines disk start now image image' notes notes' ImageFault
SaysOfDumps disk start now image image' notes notes' (Err NotesFault) =
    StopsBy read_part beside_lines disk start now image image' notes notes' NotesFault
    ⊎ WroteIntoEnd disk start now image image' notes notes'
