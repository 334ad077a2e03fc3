-- What a disk comes to in a picture that is read of its dumps, and what drawing it may answer.
use Rattle.std.specs.Prelude.{◌≡◌, ◌<◌, ◌≤◌, ◌⊎◌, ℕ, List, [], ◌++◌, codes, length}
use Rattle.std.specs.Prelude.{Option, Some, None, Result, Ok, Err}
use Rattle.std.specs.Io.KnownBytes.{Appends}
use Rattle.flux_base.specs.Outside.{AppendsPart}
use Rattle.sector_images.specs.Places.{tracks}
use Rattle.sector_images.specs.declared.format.Format.{Format}
use Rattle.sector_report.specs.DumpLines.{unread_text}
use Rattle.sector_report.specs.Lines.{total_text}
use Rattle.sector_report.specs.declared.naming.Naming.TheVariants.{ByCaptureAndClock}
use Rattle.track_shelf.specs.Files.{File}
use Rattle.turn_merge.specs.Others.{NotedOther}
use Rattle.flux_engine.specs.Disks.{images, lines, part_at, totals_over}
use Rattle.flux_engine.specs.Plans.{PartOf, Seen}
use Rattle.flux_engine.specs.Tracks.{TrackPart}
use Rattle.flux_engine.specs.declared.fault.Stopped.{Stopped}
use Rattle.flux_engine.specs.declared.fault.Stopped.TheVariants.{ReadFault, ImageFault}
use Rattle.flux_engine.specs.declared.fault.Stopped.TheVariants.{NotesFault, Refused}
use Rattle.dump_reading.specs.Beside.{LinesOf, no_lines}
use Rattle.dump_reading.specs.Files.{ShelfNow}
use Rattle.dump_reading.specs.Outcomes.{AreAllBy, AreTracksBy, DumpDisk, DumpsRead}
use Rattle.dump_reading.specs.Outcomes.{FilesFailed, IsDumpsRead, IsReadBy, IsToldEmpty}
use Rattle.dump_reading.specs.Outcomes.{LookedAsAsked, LookedBeside, numbers_of}
use Rattle.dump_reading.specs.Reports.{read_part}
use Rattle.dump_reading.specs.declared.fault.NoFiles.{NoFiles}
use Rattle.dump_reading.specs.declared.totals.DumpTotals.{DumpTotals}
use Rattle.disk_map.specs.Maps.{ShowsTrack, TrackLinesOf, drawn_with, lined_by, no_track_lines}
use Rattle.disk_map.specs.Places.{layout_of}
use Rattle.disk_map.specs.Texts.{counts_text, foot_text, top_by}
use Rattle.disk_map.specs.declared.layout.Layout.{Layout}

-- what becomes of a track: its fields, with the lines of the report of dumps as titles, and lines
-- beside them, or none
abbrev pub dumps_part_with : TrackLinesOf → PartOf
dumps_part_with of = drawn_with of ByCaptureAndClock

abbrev pub dumps_part : PartOf
dumps_part = dumps_part_with no_track_lines

-- a picture of dumps up to its foot
abbrev pub dumps_front : Format → List TrackPart → List ℕ
dumps_front format parts = top_by (codes "read") format ++ images parts

-- its foot: beside the legend how many streams were passed over, how many other names are told,
-- and how many of these have data
abbrev pub dumps_foot : Layout → DumpTotals → List ℕ
dumps_foot layout totals =
    counts_text layout (unread_text totals.unread totals.others totals.whole)
    ++ foot_text layout totals.sectors (total_text totals.sectors)

-- The picture stands in the place of the image, and there are no notes: of the files beside the
-- format's tracks it has the numbers alone.
abbrev pub picture_of : Format → List TrackPart → (beside : List ℕ) → DumpTotals → DumpsRead
picture_of format parts beside totals = record {
  image = dumps_front format parts ++ dumps_foot (layout_of format) totals;
  notes = [];
  totals = totals;
}

-- what the dumps come to in a picture, by the files that are told
abbrev pub IsDumpsDrawn : DumpDisk → Option (List File) → DumpsRead → Type 0
IsDumpsDrawn disk told o = IsReadBy dumps_part no_lines (picture_of disk.format) disk told o

-- all of it was written
pub record DrewDumps (disk : DumpDisk) (start now : ShelfNow) (picture picture' : Option (List ℕ))
    (totals : DumpTotals) : Type 0 where
  pub outcome : DumpsRead
  pub is : IsDumpsDrawn disk start.told.files outcome
  pub shelf : FilesFailed disk start now is.streams is.beside.came
  pub grew : Appends picture picture' outcome.image
  pub totals_are : totals ≡ outcome.totals

-- All of the lines beside the fields were written, of the format's tracks and of those beside them.
abbrev pub lines_read : List TrackPart → (beside : List ℕ) → DumpTotals → DumpsRead
lines_read parts beside totals =
    record { image = []; notes = lines parts ++ beside; totals = totals }

pub record WroteLines (of : TrackLinesOf) (beside_of : LinesOf) (disk : DumpDisk)
    (start now : ShelfNow) (notes notes' : Option (List ℕ)) (totals : DumpTotals) : Type 0 where
  pub outcome : DumpsRead
  pub is : IsReadBy (lined_by of) beside_of lines_read disk start.told.files outcome
  pub shelf : FilesFailed disk start now is.streams is.beside.came
  pub grew : Appends notes notes' outcome.notes
  pub totals_are : totals ≡ outcome.totals

-- Behind all tracks of the format stands the foot, which counts what came of the files beside them
-- too.
pub record HasFoot (disk : DumpDisk) (told : Option (List File)) (streams : List Seen)
    (parts : List TrackPart) (came : List Seen) (ending : List ℕ) : Type 0 where
  pub others : List (List NotedOther)
  pub all : AreAllBy dumps_part disk told streams parts others
  pub beside : LookedBeside disk told
  pub looked : LookedAsAsked (totals_over parts) beside
  pub came_is : came ≡ beside.came
  pub is : ending
      ≡ dumps_foot (layout_of disk.format) (numbers_of streams parts others came beside.others)

-- What stands in a picture after some of its tracks: nothing yet, and nothing came beside them; or
-- the foot where these are all.
abbrev pub IsDumpsEnding : DumpDisk → Option (List File) → List Seen → List TrackPart → List Seen
    → (ending : List ℕ) → Type 0
IsDumpsEnding disk told streams parts came ending =
    ((ending ≡ []) × (came ≡ [])) ⊎ HasFoot disk told streams parts came ending

-- The sink of the picture failed: a part of a picture of the first tracks was written, which is
-- shorter than it.
pub record StoppedInDumps (disk : DumpDisk) (start now : ShelfNow)
    (picture picture' : Option (List ℕ)) : Type 0 where
  pub streams : List Seen
  pub parts : List TrackPart
  pub few : length parts ≤ length (tracks disk.format)
  pub read : AreTracksBy dumps_part disk start.told.files streams parts
  pub beside : List Seen
  pub ending : List ℕ
  pub ends : IsDumpsEnding disk start.told.files streams parts beside ending
  pub shelf : FilesFailed disk start now streams beside
  pub grew : AppendsPart picture picture' (dumps_front disk.format parts ++ ending)

-- What an answer says. A dump without files is told before anything is read or written; a
-- file that fails ends nothing.
abbrev pub SaysOfDrawing : DumpDisk → (start now : ShelfNow) → (picture picture' : Option (List ℕ))
    → Result DumpTotals (Stopped NoFiles) → Type 0
SaysOfDrawing disk start now picture picture' (Ok totals) =
    IsToldEmpty disk start.told.files None × DrewDumps disk start now picture picture' totals
SaysOfDrawing disk start now picture picture' (Err ReadFault) = ⊥
SaysOfDrawing disk start now picture picture' (Err (Refused empty)) =
    (empty.dump < length disk.dumps) × IsToldEmpty disk start.told.files (Some empty.dump)
    × (now ≡ start) × (picture' ≡ picture)
SaysOfDrawing disk start now picture picture' (Err ImageFault) =
    StoppedInDumps disk start now picture picture'
SaysOfDrawing disk start now picture picture' (Err NotesFault) = ⊥

-- A picture and lines beside it were written, of one reading.
pub record DrewWithLines (of : TrackLinesOf) (beside_of : LinesOf) (disk : DumpDisk)
    (start now : ShelfNow) (picture picture' notes notes' : Option (List ℕ))
    (totals : DumpTotals) : Type 0 where
  pub drew : DrewDumps disk start now picture picture' totals
  pub wrote : WroteLines of beside_of disk start now notes notes' totals
  pub streams : wrote.is.streams ≡ drew.is.streams
  pub beside : wrote.is.beside.came ≡ drew.is.beside.came

-- A picture is that of a report: the report of the same streams has the same numbers, and of each
-- track the picture has the fields by what was gathered of it, of which the report has the lines.
pub record ShowsReport (disk : DumpDisk) (told : Option (List File)) (o : DumpsRead)
    (is : IsDumpsDrawn disk told o) : Type 0 where
  pub report : DumpsRead
  pub read : IsDumpsRead disk told report
  pub streams : read.streams ≡ is.streams
  pub beside : read.beside.came ≡ is.beside.came
  pub totals : report.totals ≡ o.totals
  pub tracks : (n : ℕ) → n < length is.parts
      → ShowsTrack dumps_part read_part disk.format n (part_at is.parts n) (part_at read.parts n)

abbrev pub PicturesOfDumpsShowReports : Type 0
PicturesOfDumpsShowReports =
    (disk : DumpDisk) (told : Option (List File)) (o : DumpsRead) (is : IsDumpsDrawn disk told o)
    → ShowsReport disk told o is
