-- What is known of what `read` gives, the image and the report or a picture,
-- where the shelf tells its files.
use Rattle.std.specs.Prelude.{◌≡◌, ◌⊎◌, ◌<◌, ◌↔◌, IsTrue, ℕ, List, [], ◌++◌, get_or, length, Some}
use Rattle.disk_map.specs.Dumps.{IsDumpsDrawn, ShowsReport}
use Rattle.dump_reading.specs.Outcomes.{DumpDisk, DumpsRead, FilesFailed, IsDumpsRead, IsFirstEmpty}
use Rattle.dump_reading.specs.Outcomes.{plan_of}
use Rattle.dump_reading.specs.Totals.{is_complete}
use Rattle.dump_reading.specs.Files.{ShelfNow}
use Rattle.flux_engine.specs.Plans.{joined}
use Rattle.flux_engine.specs.Rings.{IsImage}
use Rattle.law_captured_disks.specs.Headline.{IsSectorOf}
use Rattle.law_captured_dumps.specs.Inputs.{HasFailed, HasWhole, IsSteadyOrPassed}
use Rattle.law_captured_plans.specs.Headline.{IsReadRightly, IsReadWell}
use Rattle.law_captured_plans.specs.Said.{AreToldBy, IsSaid}
use Rattle.law_read_dumps.specs.Complete.{IsAllRead}
use Rattle.law_read_dumps.specs.Lines.{ArePassedSaid, AreSaid, HasNoOtherLines}
use Rattle.law_read_dumps.specs.Lines.{format_tracks, line_number, other_tracks}
use Rattle.law_read_dumps.specs.Said.{AreBesideOfFiles, AreOfFiles, IsSaidRightly}
use Rattle.law_read_dumps.specs.Said.{StaysOrIsContradicted, as_planned, came_in}
use Rattle.law_reported_dumps.specs.Told.{ArePassedTold, TellsOnce}
use Rattle.track_shelf.specs.DumpKinds.{kind_in}
use Rattle.flux_cli.specs.EmptyText.{empty_text}
use Rattle.track_shelf.specs.Files.{File}
use Rattle.turn_merge.specs.Readings.{verdict}
use Rattle.flux_cli.specs.ReadRuns.{read_outcome}
use Rattle.flux_cli.specs.ShelfWork.{empty_outcome}
use Rattle.flux_cli.specs.Work.{Outcome}
use Rattle.flux_words.specs.declared.options.Shown.{Shown}
use Rattle.flux_words.specs.declared.options.Shown.TheVariants.{Image, Picture}

-- Each sector's line, at its number, and its bytes in the image are those that all readings of the
-- dumps bear out. Each line of the report that has the text of a sector's line is that one, at its
-- number, and no sector is told twice. Each stream that is passed over is told, of a track of the
-- format or of any other, and each line that has the text of such a stream's is true; there are as
-- many lines as the numbers say. The numbers call all of it complete exactly where every sector is
-- good and, in the cells of no stream of any track, whole data stand after a header that names none
-- of its track's sectors. A sector that is good by the strict rule in one dump, by one clock, is
-- never wrong unsaid, whatever the files are: it is good with the same bytes, or contradictory. So
-- is one that a dump has whole, in a file that did not fail, with its own bytes; where the other
-- files are captures too or passed over, and the drives kept their speed, it is good with them.
pub record OfDumps (disk : DumpDisk) (files : List File) (d : DumpsRead) : Type 0 where
  pub is : IsDumpsRead disk (Some files) d
  pub of_files : AreOfFiles disk (came_in is) files
  pub of_files_beside : AreBesideOfFiles is.beside files
  pub said : AreSaid disk (came_in is) d is.others
  pub right : (n sector number : ℕ)
      (said : IsSaid (plan_of disk) disk.format (came_in is) (as_planned d) n sector number)
      → IsSaidRightly disk (came_in is) d n sector (verdict (joined said.captures) sector)
  pub told : AreToldBy (plan_of disk) disk.format (came_in is) (as_planned d)
      (line_number disk (came_in is) is.others)
  pub once : TellsOnce d.notes
  pub passed : ArePassedSaid disk (format_tracks is) d
  pub passed_beside : ArePassedSaid disk (other_tracks is) d
  pub passed_told : ArePassedTold disk (format_tracks is) (other_tracks is) d
  pub count : HasNoOtherLines d (is.others ++ is.beside.others)
  pub complete : IsTrue (is_complete d.totals)
      ↔ IsAllRead disk (Some files) (came_in is) is.beside d
  pub stays : (n sector number : ℕ)
      (said : IsSaid (plan_of disk) disk.format (came_in is) (as_planned d) n sector number)
      → StaysOrIsContradicted disk (came_in is) n sector (joined said.captures)
  pub whole : (image : List ℕ) → IsImage disk.format image → (n sector : ℕ)
      → IsSectorOf disk.format n sector
      → (dump : ℕ) → dump < length disk.dumps → ¬ HasFailed (came_in is) n dump
      → HasWhole disk files image n dump sector
      → IsReadRightly (plan_of disk) disk.format image (came_in is) (as_planned d) n sector
      (line_number disk (came_in is) is.others n sector)
  pub steady : (image : List ℕ) → IsImage disk.format image → (n sector : ℕ)
      → IsSectorOf disk.format n sector
      → (dump : ℕ) → dump < length disk.dumps → ¬ HasFailed (came_in is) n dump
      → HasWhole disk files image n dump sector
      → ((other : ℕ) → other < length disk.dumps
      → IsSteadyOrPassed disk (came_in is) files image n other)
      → IsReadWell (plan_of disk) disk.format image (came_in is) (as_planned d) n sector
      (line_number disk (came_in is) is.others n sector)

-- The image and the report of the dumps. All that the shelf did is that those files failed that the
-- report tells so, in their order, and none is open that was not.
pub record GivesDumps (disk : DumpDisk) (files : List File) (start now : ShelfNow)
    (o : Outcome) : Type 0 where
  pub read : DumpsRead
  pub is : o ≡ read_outcome read
  pub holds : OfDumps disk files read
  pub shelf : FilesFailed disk start now holds.is.streams holds.is.beside.came

-- A picture of the dumps, and no notes. The picture is that of a report of the same dumps: in each
-- track it has the fields of the sectors whose lines this report has, by the same readings, and the
-- same numbers; and what the report says is borne out.
pub record GivesPicture (disk : DumpDisk) (files : List File) (start now : ShelfNow)
    (o : Outcome) : Type 0 where
  pub drawn : DumpsRead
  pub drawn_is : IsDumpsDrawn disk (Some files) drawn
  pub is : o ≡ read_outcome drawn
  pub notes_are : drawn.notes ≡ []
  pub shows : ShowsReport disk (Some files) drawn drawn_is
  pub holds : OfDumps disk files shows.report
  pub shelf : FilesFailed disk start now holds.is.streams holds.is.beside.came

-- by what is shown of the verdicts
abbrev pub GivesShown : Shown → DumpDisk → List File → (start now : ShelfNow) → Outcome → Type 0
GivesShown Image disk files start now o = GivesDumps disk files start now o
GivesShown Picture disk files start now o = GivesPicture disk files start now o

-- the first dump that has none of the disk's files is told, with what is there
pub record GivesEmpty (disk : DumpDisk) (files : List File) (o : Outcome) : Type 0 where
  pub number : ℕ
  pub low : number < length disk.dumps
  pub first : IsFirstEmpty disk files (Some number)
  pub is : o ≡ empty_outcome (empty_text number (get_or disk.dumps number [])
      (kind_in files (get_or disk.dumps number [])))

-- The headline of `read`, where the shelf tells its files. Those that failed cut nothing: all else
-- was read and given.
abbrev pub OfRead : Shown → DumpDisk → (start now : ShelfNow) → Outcome → Type 0
OfRead shown disk start now o = (files : List File) → start.told.files ≡ Some files
    → GivesEmpty disk files o ⊎ GivesShown shown disk files start now o
