-- What the lines of a report of dumps tell: which of them are those of sectors, and which are those
-- of streams that were passed over.
use Rattle.std.specs.Prelude.{◌≡◌, ◌≤◌, ◌<◌, ◌⊎◌, ℕ, List, length, Some}
use Rattle.dump_reading.specs.Outcomes.{DumpDisk, DumpsRead, IsDumpsRead, plan_of}
use Rattle.flux_base.specs.declared.track.TrackId.{TrackId}
use Rattle.flux_engine.specs.DiskLaws.{HasLine}
use Rattle.law_captured_plans.specs.Said.{AreToldBy}
use Rattle.law_read_dumps.specs.Lines.{LookedAt, format_tracks, line_number, other_tracks}
use Rattle.law_read_dumps.specs.Said.{as_planned, came_in}
use Rattle.sector_report.specs.DumpLines.{PassedLineFits, passed_text}
use Rattle.sector_report.specs.LineLaws.{LineFits}
use Rattle.sector_report.specs.Lines.{named_text}
use Rattle.sector_report.specs.declared.dump_lines.Passed.{Passed}
use Rattle.sector_report.specs.declared.dump_lines.Passed.TheVariants.{Absent, Failed}
use Rattle.sector_report.specs.declared.naming.Naming.TheVariants.{ByCaptureAndClock}
use Rattle.track_shelf.specs.Files.{File}
use Rattle.turn_merge.specs.declared.verdict.Verdict.{Verdict}

-- each line of a report that has the text of a sector's line is told, as by the dumps' plan, with
-- the dumps, the clocks and the places that it names
abbrev pub LinesTell : Type 0
LinesTell =
    (disk : DumpDisk) (files : List File) (o : DumpsRead) (is : IsDumpsRead disk (Some files) o)
    → length disk.dumps ≤ 16
    → AreToldBy (plan_of disk) disk.format (came_in is) (as_planned o)
    (line_number disk (came_in is) is.others)

-- a report tells no sector twice: two lines that have the texts of lines of one sector
-- are one line, with one verdict
abbrev pub TellsOnce : (notes : List ℕ) → Type 0
TellsOnce notes = (track : TrackId) (sector : ℕ) (outcome other : Verdict) (number another : ℕ)
    → LineFits ByCaptureAndClock track sector outcome
    → LineFits ByCaptureAndClock track sector other
    → HasLine notes (named_text ByCaptureAndClock track sector outcome) number
    → HasLine notes (named_text ByCaptureAndClock track sector other) another
    → (outcome ≡ other) × (number ≡ another)

abbrev pub NoSectorIsToldTwice : Type 0
NoSectorIsToldTwice = (disk : DumpDisk) (files : List File) (o : DumpsRead)
    → IsDumpsRead disk (Some files) o → length disk.dumps ≤ 16 → TellsOnce o.notes

-- The line is that of this dump's stream of one of these tracks, which is passed over,
-- for a reason that is told by the same text. Where the line says that the file is
-- missing, or that it failed, so it is.
pub record IsPassedTold (disk : DumpDisk) (at : LookedAt) (track : TrackId) (dump : ℕ)
    (why : Passed) : Type 0 where
  pub n : ℕ
  pub low : n < at.many
  pub track_is : track ≡ at.track_of n
  pub few : dump < length disk.dumps
  pub reason : Passed
  pub is : at.passed n dump ≡ Some reason
  pub text : passed_text track dump reason ≡ passed_text track dump why
  pub missing : why ≡ Absent → reason ≡ Absent
  pub failed : why ≡ Failed → reason ≡ Failed

-- so it is with each line of a report that has the text of such a stream's line: of a track
-- of the format, or of one beside
abbrev pub ArePassedTold : DumpDisk → (format beside : LookedAt) → DumpsRead → Type 0
ArePassedTold disk format beside o =
    (track : TrackId) (dump : ℕ) (why : Passed) (number : ℕ) → PassedLineFits track dump why
    → HasLine o.notes (passed_text track dump why) number
    → IsPassedTold disk format track dump why ⊎ IsPassedTold disk beside track dump why

abbrev pub PassedLinesAreTold : Type 0
PassedLinesAreTold =
    (disk : DumpDisk) (files : List File) (o : DumpsRead) (is : IsDumpsRead disk (Some files) o)
    → length disk.dumps ≤ 16
    → ArePassedTold disk (format_tracks is) (other_tracks is) o
