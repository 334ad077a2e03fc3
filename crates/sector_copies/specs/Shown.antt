-- What is shown of a sector of a disk that is read of its dumps, and what a
-- call that shows it may answer.
use Rattle.std.specs.Prelude.{◌≡◌, ◌<◌, ℕ, List, [], ◌++◌, length, Option, Some, None, Result, Ok}
use Rattle.std.specs.Prelude.{Err}
use Rattle.std.specs.Io.KnownBytes.{Appends}
use Rattle.flux_base.specs.Outside.{AppendsPart}
use Rattle.sector_images.specs.declared.format.Format.{Format}
use Rattle.track_shelf.specs.Files.{File}
use Rattle.turn_merge.specs.Readings.{NotedReading}
use Rattle.turn_merge.specs.declared.verdict.Verdict.{Verdict}
use Rattle.flux_engine.specs.LoopProgress.{lost_count}
use Rattle.flux_engine.specs.Plans.{AreCaptures, Seen, joined, passed_to}
use Rattle.flux_engine.specs.Recordings.{track_at}
use Rattle.flux_engine.specs.declared.fault.Stopped.{Stopped}
use Rattle.flux_engine.specs.declared.fault.Stopped.TheVariants.{ReadFault, ImageFault}
use Rattle.flux_engine.specs.declared.fault.Stopped.TheVariants.{NotesFault, Refused}
use Rattle.flux_engine.specs.declared.gathered_track.PassedStream.{PassedStream}
use Rattle.dump_reading.specs.DumpStreams.{AreOfDumps, HaveComeOf}
use Rattle.dump_reading.specs.Files.{ShelfNow}
use Rattle.dump_reading.specs.Outcomes.{DumpDisk, IsToldEmpty}
use Rattle.dump_reading.specs.Reports.{dump_plan, passed_lines}
use Rattle.dump_reading.specs.declared.fault.NoFiles.{NoFiles}
use Rattle.sector_copies.specs.Copies.{Copy}
use Rattle.sector_copies.specs.Texts.{copy_at, line_text, sector_text}
use Rattle.sector_copies.specs.TrackReadings.{TellsOf, of_track, streams_of}
use Rattle.sector_copies.specs.declared.totals.SectorTotals.{SectorTotals}

-- one sector of a disk, and which of its contents is asked for alone
pub record SectorAsked : Type 0 where
  pub disk : DumpDisk
  pub number : ℕ
  pub sector : ℕ
  pub alone : Option ℕ

-- the bytes of the image's place and of the notes, and the numbers
pub record SectorShown : Type 0 where
  pub image : List ℕ
  pub notes : List ℕ
  pub totals : SectorTotals

-- The contents and the sector's line; or the bytes of one content alone, where there is such a
-- one, and the line in the notes.
abbrev pub image_shown : Option ℕ → Format → (n sector : ℕ) → Verdict → List Copy → List ℕ
image_shown None format n sector outcome copies = sector_text format n sector outcome copies
image_shown (Some number) format n sector outcome copies = (copy_at copies number).bytes

abbrev pub notes_shown : Option ℕ → Format → (n sector : ℕ) → Verdict → List ℕ
notes_shown None format n sector outcome = []
notes_shown (Some number) format n sector outcome = line_text format n sector outcome

abbrev pub shown_of : SectorAsked → List PassedStream → (lost : ℕ) → Verdict → List Copy
    → SectorShown
shown_of asked passed lost outcome copies = record {
  image = image_shown asked.alone asked.disk.format asked.number asked.sector outcome copies;
  notes = passed_lines (track_at asked.disk.format asked.number) passed
      ++ notes_shown asked.alone asked.disk.format asked.number asked.sector outcome;
  totals = record { copies = length copies; lost = lost };
}

-- What the dumps come to, by what came of the files that are told: the verdict and the contents are
-- those over all readings of the track's streams, whatever lists have all readings of each.
pub record IsSectorShown (asked : SectorAsked) (told : Option (List File))
    (o : SectorShown) : Type 0 where
  pub came : List Seen
  pub many : length came ≡ length asked.disk.dumps
  pub are : AreOfDumps (of_track asked.disk asked.number) told came
  pub outcome : Verdict
  pub copies : List Copy
  pub tells : (captures : List (List NotedReading)) → length captures ≡ length asked.disk.dumps
      → AreCaptures (dump_plan (length asked.disk.dumps)) asked.disk.format (streams_of came)
      asked.number captures
      → TellsOf asked.sector (joined captures) outcome copies
  pub is : o
      ≡ shown_of asked (passed_to (streams_of came) asked.number (length asked.disk.dumps))
      (lost_count came) outcome copies

-- Each dump has files, and those of the track were read: all that the shelf did is that
-- those failed that are told so.
pub record HasShown (asked : SectorAsked) (start now : ShelfNow) (o : SectorShown) : Type 0 where
  pub none_empty : IsToldEmpty asked.disk start.told.files None
  pub is : IsSectorShown asked start.told.files o
  pub shelf : HaveComeOf (of_track asked.disk asked.number) start now is.came

-- What an answer says. A dump without files is told before anything is read; a file that fails ends
-- nothing; the notes are written first.
abbrev pub SaysOfSector : SectorAsked → (start now : ShelfNow)
    → (image image' notes notes' : Option (List ℕ)) → Result SectorTotals (Stopped NoFiles)
    → Type 0
SaysOfSector asked start now image image' notes notes' (Ok totals) =
    (o : SectorShown) × HasShown asked start now o × Appends image image' o.image
    × Appends notes notes' o.notes × (totals ≡ o.totals)
SaysOfSector asked start now image image' notes notes' (Err ReadFault) = ⊥
SaysOfSector asked start now image image' notes notes' (Err (Refused empty)) =
    (empty.dump < length asked.disk.dumps)
    × IsToldEmpty asked.disk start.told.files (Some empty.dump) × (now ≡ start)
    × (image' ≡ image) × (notes' ≡ notes)
SaysOfSector asked start now image image' notes notes' (Err NotesFault) =
    (o : SectorShown) × HasShown asked start now o × (image' ≡ image)
    × AppendsPart notes notes' o.notes
SaysOfSector asked start now image image' notes notes' (Err ImageFault) =
    (o : SectorShown) × HasShown asked start now o × AppendsPart image image' o.image
    × Appends notes notes' o.notes
