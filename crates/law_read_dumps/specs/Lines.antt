-- The lines of a report of dumps: at which number each sector's stands, what each
-- line is, and how many there are.
use Rattle.std.specs.Prelude.{◌≡◌, ◌≤◌, ◌<◌, ◌⊎◌, IsTrue, ℕ, ◌+◌, ◌-◌, Bool, cond, Contains, List}
use Rattle.std.specs.Prelude.{[], ◌∷◌, ◌++◌, count_by, get_or, length, nat_lt, sum_by, Option, Some}
use Rattle.std.specs.Prelude.{None}
use Rattle.std.specs.List.{range_with_len}
use Rattle.dump_reading.specs.Beside.{beside_at, captures_at}
use Rattle.dump_reading.specs.Outcomes.{DumpDisk, DumpsRead, IsDumpsRead, plan_of}
use Rattle.dump_reading.specs.Reports.{trace_count}
use Rattle.dump_reading.specs.declared.totals.DumpTotals.{DumpTotals}
use Rattle.flux_base.specs.declared.track.TrackId.{TrackId}
use Rattle.flux_engine.specs.Counts.{whole_names_of}
use Rattle.flux_engine.specs.DiskLaws.{HasLine}
use Rattle.flux_engine.specs.Plans.{Seen, Streams, joined, passed_to}
use Rattle.flux_engine.specs.Recordings.{sectors_of, track_at}
use Rattle.law_captured_disks.specs.Headline.{IsSectorOf}
use Rattle.law_captured_plans.specs.Said.{IsSaid}
use Rattle.sector_images.specs.Formats.{row}
use Rattle.sector_images.specs.Places.{tracks}
use Rattle.sector_report.specs.DumpLines.{other_text, passed_text, traces_text, unread_text}
use Rattle.sector_report.specs.DumpLines.{untold_text}
use Rattle.sector_report.specs.LineLaws.{line_ends}
use Rattle.sector_report.specs.Lines.{named_text, total_text}
use Rattle.sector_report.specs.declared.dump_lines.Passed.{Passed}
use Rattle.sector_report.specs.declared.dump_lines.Passed.TheVariants.{Absent}
use Rattle.sector_report.specs.declared.naming.Naming.TheVariants.{ByCaptureAndClock}
use Rattle.track_shelf.specs.Files.{File}
use Rattle.turn_merge.specs.Others.{NotedOther, has_data, has_untold, others_over}
use Rattle.turn_merge.specs.Readings.{verdict}
use Rattle.turn_merge.specs.declared.others.OtherTold.{OtherTold}
use Rattle.law_read_dumps.specs.Said.{as_planned, came_in}

-- how many streams of track number n are passed over
abbrev pub passed_on : DumpDisk → Streams → ℕ → ℕ
passed_on disk came n = length (passed_to came n (length disk.dumps))

-- a name of a track's others is told that has no whole data
abbrev pub has_traces : List NotedOther → Bool
has_traces others = nat_lt 0 (trace_count (others_over others))

-- How many lines tell of a track's others: one for each name that is told and has whole data, one
-- where such data follow a name that is not told, and one where a name that is told has none.
abbrev pub other_lines_of : List NotedOther → ℕ
other_lines_of others =
    whole_names_of (others_over others) (has_untold others) + cond (has_traces others) 1 0

-- How many lines track number n has: one for each stream that is passed over, one for each
-- sector, and those of its others.
abbrev pub lines_on : DumpDisk → Streams → (others : List (List NotedOther)) → ℕ → ℕ
lines_on disk came others n =
    passed_on disk came n + (sectors_of disk.format (track_at disk.format n)).count
    + other_lines_of (get_or others n [])

-- the lines before that of a sector of track number n: those of all tracks before it, those of the
-- track's streams that are passed over, and those of the track's sectors of smaller numbers
abbrev pub line_number : DumpDisk → Streams → (others : List (List NotedOther)) → (n sector : ℕ) → ℕ
line_number disk came others n sector =
    sum_by (lines_on disk came others) (range_with_len 0 n) + passed_on disk came n
    + (sector - (row disk.format).first_sector)

-- each sector of the disk is said, its line at its number
abbrev pub AreSaid : DumpDisk → Streams → DumpsRead → (others : List (List NotedOther)) → Type 0
AreSaid disk came o others = (n sector : ℕ) → IsSectorOf disk.format n sector
    → IsSaid (plan_of disk) disk.format came (as_planned o) n sector
    (line_number disk came others n sector)

abbrev pub EachIsSaid : Type 0
EachIsSaid =
    (disk : DumpDisk) (told : Option (List File)) (o : DumpsRead) (is : IsDumpsRead disk told o)
    → AreSaid disk (came_in is) o is.others

-- Tracks that were looked at: which they are, how many, why a stream of a dump is told as passed
-- over, and the other headers of each.
pub record LookedAt : Type 0 where
  pub track_of : ℕ → TrackId
  pub many : ℕ
  pub passed : (n dump : ℕ) → Option Passed
  pub others : List (List NotedOther)

-- those of the format
abbrev pub of_format : DumpDisk → Streams → (others : List (List NotedOther)) → LookedAt
of_format disk came others =
    record {
      track_of = track_at disk.format;
      many = length (tracks disk.format);
      passed = λ n dump. (came n dump).passed;
      others = others;
    }

-- and those beside it that were looked at, of which a missing file is not told
abbrev pub told_of : Option Passed → Option Passed
told_of (Some Absent) = None
told_of why = why

abbrev pub of_others : DumpDisk → (came : List Seen) → (others : List (List NotedOther)) → LookedAt
of_others disk came others = record {
  track_of = beside_at disk.stepping disk.format;
  many = length others;
  passed = λ n dump. told_of (captures_at (length disk.dumps) came n dump).passed;
  others = others;
}

-- the same of a disk that was read
abbrev pub format_tracks : {disk : DumpDisk} {told : Option (List File)} {o : DumpsRead}
    → IsDumpsRead disk told o → LookedAt
format_tracks {disk} is = of_format disk (came_in is) is.others

abbrev pub other_tracks : {disk : DumpDisk} {told : Option (List File)} {o : DumpsRead}
    → IsDumpsRead disk told o → LookedAt
other_tracks {disk} is = of_others disk is.beside.came is.beside.others

-- the report has a line for each stream of these tracks that is passed over, with the reason
abbrev pub ArePassedSaid : DumpDisk → LookedAt → DumpsRead → Type 0
ArePassedSaid disk at o = (n dump : ℕ) (why : Passed) → n < at.many → dump < length disk.dumps
    → at.passed n dump ≡ Some why
    → (number : ℕ) × HasLine o.notes (passed_text (at.track_of n) dump why) number

abbrev pub PassedStreamsAreSaid : Type 0
PassedStreamsAreSaid =
    (disk : DumpDisk) (told : Option (List File)) (o : DumpsRead) (is : IsDumpsRead disk told o)
    → ArePassedSaid disk (format_tracks is) o

-- and for each of a track beside the format's, but for one that is missing
abbrev pub OtherFilesAreSaid : Type 0
OtherFilesAreSaid =
    (disk : DumpDisk) (told : Option (List File)) (o : DumpsRead) (is : IsDumpsRead disk told o)
    → ArePassedSaid disk (other_tracks is) o

-- on how many tracks a name of others is told that has no whole data
abbrev pub traced_count : List (List NotedOther) → ℕ
traced_count tracks = count_by has_traces tracks

-- As many lines as there are streams that are passed over (of a track beside the format's, where it
-- is there), sectors, and names of others that have whole data, those of a track that are not told
-- as one; one more for each track with a name that has none, and the two with the totals.
abbrev pub HasNoOtherLines : DumpsRead → (others : List (List NotedOther)) → Type 0
HasNoOtherLines o others = line_ends o.notes
    ≡ o.totals.unread + o.totals.sectors.sectors + o.totals.whole + traced_count others + 2

-- a report has so many, and no other
abbrev pub ReportsHaveNoOtherLines : Type 0
ReportsHaveNoOtherLines =
    (disk : DumpDisk) (told : Option (List File)) (o : DumpsRead) (is : IsDumpsRead disk told o)
    → HasNoOtherLines o (is.others ++ is.beside.others)

-- the line is that of a sector of the disk, with the verdict over all readings of its
-- track, and stands at its number
pub record IsSectorLine (disk : DumpDisk) (came : Streams) (o : DumpsRead)
    (others : List (List NotedOther)) (number : ℕ) (line : List ℕ) : Type 0 where
  pub n : ℕ
  pub sector : ℕ
  pub one : IsSectorOf disk.format n sector
  pub said : IsSaid (plan_of disk) disk.format came (as_planned o) n sector
      (line_number disk came others n sector)
  pub line_is : line
      ≡ named_text ByCaptureAndClock (track_at disk.format n) sector
      (verdict (joined said.captures) sector)
  pub number_is : number ≡ line_number disk came others n sector

module _ (disk : DumpDisk) (at : LookedAt) (line : List ℕ) where
  -- it is that of a dump's stream of one of these tracks, which is passed over for this reason
  pub record IsPassedLine : Type 0 where
    pub n : ℕ
    pub low : n < at.many
    pub dump : ℕ
    pub few : dump < length disk.dumps
    pub why : Passed
    pub is : at.passed n dump ≡ Some why
    pub line_is : line ≡ passed_text (at.track_of n) dump why

  -- it is that of a name of others of one of these tracks which is told and has whole data
  pub record IsOtherLine : Type 0 where
    pub n : ℕ
    pub low : n < at.many
    pub name : OtherTold
    pub has : Contains (others_over (get_or at.others n [])) name
    pub whole : IsTrue (has_data name)
    pub line_is : line ≡ other_text ByCaptureAndClock (at.track_of n) name

  -- it tells that whole data stand after a name of others of one of them which is not told
  pub record IsUntoldLine : Type 0 where
    pub n : ℕ
    pub low : n < at.many
    pub untold : IsTrue (has_untold (get_or at.others n []))
    pub line_is : line ≡ untold_text (at.track_of n)

  -- it tells how many names of others of one of them are told that have no whole data
  pub record IsTracesLine : Type 0 where
    pub n : ℕ
    pub low : n < at.many
    pub some : IsTrue (has_traces (get_or at.others n []))
    pub line_is : line
        ≡ traces_text (at.track_of n) (trace_count (others_over (get_or at.others n [])))

  abbrev pub IsTrackLine : Type 0
  IsTrackLine = IsPassedLine ⊎ IsOtherLine ⊎ IsUntoldLine ⊎ IsTracesLine

-- it is one of the two at the end
abbrev pub IsEndLine : DumpTotals → (line : List ℕ) → Type 0
IsEndLine totals line = (line ≡ unread_text totals.unread totals.others totals.whole)
    ⊎ (line ≡ total_text totals.sectors)

-- A line is a sector's, at its number; or one of the other lines of the format's tracks, or of
-- those beside them; or one at the end.
abbrev pub IsLineOfReport : DumpDisk → Streams → DumpsRead → (others : List (List NotedOther))
    → (beside : LookedAt) → (number : ℕ) → (line : List ℕ) → Type 0
IsLineOfReport disk came o others beside number line =
    IsSectorLine disk came o others number line ⊎ IsTrackLine disk (of_format disk came others) line
    ⊎ IsTrackLine disk beside line ⊎ IsEndLine o.totals line

-- each line of a report is one of these; behind the end of the last one there is but the empty text
abbrev pub LinesAreKnown : Type 0
LinesAreKnown =
    (disk : DumpDisk) (told : Option (List File)) (o : DumpsRead) (is : IsDumpsRead disk told o)
    → (number : ℕ) (line : List ℕ)
    → HasLine o.notes line number
    → IsLineOfReport disk (came_in is) o is.others (other_tracks is) number line
    ⊎ ((line ≡ 10 ∷ []) × (line_ends o.notes ≤ number))
