-- The reading of a disk into memory.
use Rattle.std.specs.Prelude.{◌≡◌, ◌++◌, ℕ, Bool, List, [], Option, Some, None, codes, length}
use Rattle.std.specs.Io.KnownBytes.{Appends}
use Rattle.sector_images.specs.declared.format.Format.{Format}
use Rattle.flux_engine.specs.Room.{RoomState, fresh}
use Rattle.flux_engine.specs.SecondSinks.{SecondNow}
use Rattle.dump_reading.specs.Beside.{beside_lines}
use Rattle.dump_reading.specs.Files.{ShelfNow}
use Rattle.dump_reading.specs.Outcomes.{DumpDisk, HasTracksBy, HasTracksSecond, IsToldEmpty}
use Rattle.dump_reading.specs.Outcomes.{WroteDumps}
use Rattle.dump_reading.specs.Reports.{read_part}
use Rattle.dump_reading.specs.declared.totals.DumpTotals.{DumpTotals}
use Rattle.scp_notes.specs.Dumps.{AllNoted, DumpNoted, texts_of}
use Rattle.disk_map.specs.Dumps.{dumps_part_with}
use Rattle.disk_map.specs.Texts.{top_by}
use Rattle.disk_summary.specs.Dumps.{DrewNoted, noted_beside, noted_track}
use Rattle.disk_summary.specs.Texts.{notes_text}
use Rattle.disk_summary.specs.Turns.{AreTurnsNoted}
use Rattle.disk_summary.specs.declared.note.Note.{Note}
use Rattle.disk_archive.specs.Finding.{FailedIf, FailedSome}
use Rattle.disk_archive.specs.Second.{second_of}
use Rattle.disk_archive.specs.declared.fault.ArchiveFault.{ArchiveFault}
use Rattle.disk_archive.specs.declared.fault.ArchiveFault.TheVariants.{Memory, NoFiles}
use Rattle.disk_archive.specs.declared.kept_writer.PictureAndNotes.{PictureAndNotes}
use Rattle.disk_archive.specs.declared.reading.Texts.{Texts}

-- rooms in which nothing lies
pub record AreFresh (format : Format) (room : RoomState) (image report : List ℕ)
    (second : PictureAndNotes) : Type 0 where
  pub room_is : room ≡ fresh format
  pub no_image : image ≡ []
  pub no_report : report ≡ []
  pub no_picture : second.picture.written ≡ []
  pub no_notes : second.notes.written ≡ []

-- All tracks were read, behind what stands before a picture's fields: what becomes of each lies in image
-- and report, and, where that fitted, in picture and notes.
pub record HasReadTracks (disk : DumpDisk) (start now : ShelfNow) (image report report' : List ℕ)
    (begun : SecondNow) (second : PictureAndNotes) (totals : DumpTotals) : Type 0 where
  pub begins : Appends (Some []) begun.image (top_by (codes "read") disk.format)
  pub first : HasTracksBy read_part beside_lines disk start now (Some []) (Some image) (Some report)
      (Some report') totals
  pub second_tracks : HasTracksSecond (dumps_part_with noted_track) noted_beside disk start now begun
      (second_of second) totals

-- Image and report were read, as two sinks got them, of which that of the image had nothing, and
-- picture and notes by the same reading.
pub record HasReadTo (disk : DumpDisk) (start now : ShelfNow) (image report report' : List ℕ)
    (notes : Option (List ℕ)) (second : PictureAndNotes) (totals : DumpTotals) : Type 0 where
  pub wrote : WroteDumps disk start now (Some []) (Some image) (Some report) (Some report') totals
  pub drew : DrewNoted disk start now (Some []) (Some second.picture.written) notes
      (Some second.notes.written) totals

-- Image and report as `read` has them: the report begins with what is noted of the dumps that are
-- SCP files, and they were looked at before.
pub record WroteBehindNotes (disk : DumpDisk) (start now : ShelfNow) (image report : List ℕ)
    (totals : DumpTotals) : Type 0 where
  pub looked : ShelfNow
  pub noted : List DumpNoted
  pub noted_are : AllNoted disk.dumps start looked noted
  pub wrote : WroteDumps disk looked now (Some []) (Some image) (Some (texts_of noted))
      (Some report) totals

-- Picture and notes: these are of what reading the disk finds, and behind that of each file that
-- turned otherwise than the others of its dump, to which the files were measured after the reading.
pub record DrewAllNoted (disk : DumpDisk) (start between now : ShelfNow) (picture : List ℕ)
    (notes : List Note) (totals : DumpTotals) : Type 0 where
  pub found : List Note
  pub drew : DrewNoted disk start between (Some []) (Some picture) (Some [])
      (Some (notes_text found)) totals
  pub uneven : List Note
  pub failed : Bool
  pub turned : AreTurnsNoted disk.dumps (length disk.dumps) between now uneven failed
  pub notes_are : notes ≡ found ++ uneven

-- all texts were read, picture and notes by the reading that gave image and report
pub record HasReadDisk (disk : DumpDisk) (start now : ShelfNow) (texts : Texts) : Type 0 where
  pub some : IsToldEmpty disk start.told.files None
  pub wrote : WroteBehindNotes disk start now texts.image.written texts.report.written texts.totals
  pub drew : DrewNoted disk wrote.looked now (Some []) (Some texts.picture.written) (Some [])
      (Some texts.notes.written) texts.totals
  pub shelf : FailedIf texts.failed start now

-- and the files were measured behind that
pub record HasRead (disk : DumpDisk) (start now : ShelfNow) (texts : Texts) : Type 0 where
  pub some : IsToldEmpty disk start.told.files None
  pub between : ShelfNow
  pub wrote : WroteBehindNotes disk start between texts.image.written texts.report.written
      texts.totals
  pub notes : List Note
  pub text : texts.notes.written ≡ notes_text notes
  pub drew : DrewAllNoted disk wrote.looked between now texts.picture.written notes texts.totals
  pub shelf : FailedIf texts.failed start now

-- the files that turned otherwise were noted behind this, and whether one failed
pub record HasNotedTurns (dumps : List (List ℕ)) (start now : ShelfNow) (notes notes' : List ℕ)
    (failed : Bool) : Type 0 where
  pub uneven : List Note
  pub are : AreTurnsNoted dumps (length dumps) start now uneven failed
  pub wrote : notes' ≡ notes ++ notes_text uneven

-- they were not
abbrev pub IsUnread : DumpDisk → (start now : ShelfNow) → ArchiveFault → Type 0
IsUnread disk start now Memory = FailedSome start now
IsUnread disk start now (NoFiles empty) =
    IsToldEmpty disk start.told.files (Some empty.dump) × FailedSome start now
IsUnread disk start now _ = ⊥

-- the files that turned otherwise were not noted
abbrev pub IsUnturned : (start now : ShelfNow) → ArchiveFault → Type 0
IsUnturned start now Memory = FailedSome start now
IsUnturned start now _ = ⊥
