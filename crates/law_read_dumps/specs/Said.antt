-- What dumps that were read say of each sector of the disk, in the report and in the image.
use Rattle.std.specs.Prelude.{◌≡◌, ◌<◌, ℕ, List, length, None, Option, Some}
use Rattle.disk_recordings.specs.Members.{header_at, sector_at}
use Rattle.dump_reading.specs.Beside.{LinesOf, beside_at, captures_at}
use Rattle.dump_reading.specs.DumpStreams.{FailedAlike, IsOrFailed, seen_of, track_in}
use Rattle.dump_reading.specs.Outcomes.{DumpDisk, DumpsRead, IsDumpsRead, IsReadBy, LookedBeside}
use Rattle.dump_reading.specs.Outcomes.{plan_of}
use Rattle.dump_reading.specs.declared.totals.DumpTotals.{DumpTotals}
use Rattle.flux_base.specs.declared.track.TrackId.{TrackId}
use Rattle.flux_engine.specs.Captured.{IsUsed}
use Rattle.flux_engine.specs.LoopProgress.{streams_over}
use Rattle.flux_engine.specs.DiskLaws.{bytes_at}
use Rattle.flux_engine.specs.PlanLaws.{IsGoodTooOrContradicted, IsRightlyContradictoryIn}
use Rattle.flux_engine.specs.PlanLaws.{IsRightlyGood, cells_in}
use Rattle.flux_engine.specs.Plans.{PartOf, Planned, Seen, Streams, joined}
use Rattle.flux_engine.specs.Recordings.{track_at}
use Rattle.flux_engine.specs.Tracks.{Found, TrackPart, readings_in}
use Rattle.frame_law.specs.Readings.{AreReadings}
use Rattle.law_captured_plans.specs.Said.{IsSaid}
use Rattle.sector_images.specs.Places.{tracks}
use Rattle.track_shelf.specs.Files.{File}
use Rattle.turn_merge.specs.Readings.{NotedReading, verdict}
use Rattle.turn_merge.specs.declared.clock.Clock.{Clock}
use Rattle.turn_merge.specs.declared.verdict.Place.{Place}
use Rattle.turn_merge.specs.declared.verdict.Verdict.{Verdict}
use Rattle.turn_merge.specs.declared.verdict.Verdict.TheVariants.{Contradictory, Good}

-- the streams of the disk that came
abbrev pub came_in : {of : PartOf} {beside_of : LinesOf}
    {whole : List TrackPart → List ℕ → DumpTotals → DumpsRead} {disk : DumpDisk}
    {told : Option (List File)} {o : DumpsRead}
    → IsReadBy of beside_of whole disk told o → Streams
came_in {of} {beside_of} {whole} {disk} is = streams_over (plan_of disk) is.streams

-- what the dump of this number says of a track
abbrev pub says_in : DumpDisk → List File → TrackId → (dump : ℕ) → Seen
says_in disk files track dump =
    seen_of (track_in disk.stepping disk.dumps files track dump)

abbrev pub says_on : DumpDisk → List File → (n dump : ℕ) → Seen
says_on disk files n dump = says_in disk files (track_at disk.format n) dump

-- each stream that came is what its dump says of the track, or the file failed, and the stream is
-- passed over
abbrev pub AreOfFiles : DumpDisk → Streams → List File → Type 0
AreOfFiles disk came files = (n dump : ℕ) → n < length (tracks disk.format)
    → dump < length disk.dumps → IsOrFailed (came n dump) (says_on disk files n dump)

abbrev pub StreamsAreOfFiles : Type 0
StreamsAreOfFiles =
    (disk : DumpDisk) (files : List File) (o : DumpsRead) (is : IsDumpsRead disk (Some files) o)
    → AreOfFiles disk (came_in is) files

-- so is each that came of a track beside the format's which was looked at
abbrev pub AreBesideOfFiles : {disk : DumpDisk} {told : Option (List File)} → LookedBeside disk told
    → List File → Type 0
AreBesideOfFiles {disk} beside files =
    (number dump : ℕ) → number < length beside.others → dump < length disk.dumps
    → IsOrFailed (captures_at (length disk.dumps) beside.came number dump)
    (says_in disk files (beside_at disk.stepping disk.format number) dump)

abbrev pub BesideStreamsAreOfFiles : Type 0
BesideStreamsAreOfFiles =
    (disk : DumpDisk) (files : List File) (o : DumpsRead) (is : IsDumpsRead disk (Some files) o)
    → AreBesideOfFiles is.beside files

-- the files, and which of them failed, decide what the dumps come to
abbrev pub DumpsAreOne : Type 0
DumpsAreOne = (disk : DumpDisk) (files : List File) (a b : DumpsRead)
    (p : IsDumpsRead disk (Some files) a) (q : IsDumpsRead disk (Some files) b)
    → FailedAlike p.streams q.streams → FailedAlike p.beside.came q.beside.came → a ≡ b

-- the same whatever becomes of each track and of all
abbrev pub AllOfDumpsIsOne : Type 0
AllOfDumpsIsOne =
    (of : PartOf) (beside_of : LinesOf) (whole : List TrackPart → List ℕ → DumpTotals → DumpsRead)
    (disk : DumpDisk) (files : List File) (a b : DumpsRead)
    (p : IsReadBy of beside_of whole disk (Some files) a)
    (q : IsReadBy of beside_of whole disk (Some files) b)
    → FailedAlike p.streams q.streams
    → FailedAlike p.beside.came q.beside.came → a ≡ b

-- What dumps come to, as that of a plan that nothing stopped: so what is said of a sector by a plan
-- is said by their plan, over all readings of its track, of all dumps and by their clocks.
abbrev pub as_planned : DumpsRead → Planned
as_planned o = record { image = o.image; notes = o.notes; totals = o.totals.sectors; stop = None }

-- what the sector's line says is right: where it says good, of the dump, the clock and
-- the place that it names; and where it says contradictory, both places that it names
-- hold the sector, with other bytes
abbrev pub IsSaidRightly : (disk : DumpDisk) (came : Streams) (o : DumpsRead) (n sector : ℕ)
    → Verdict → Type 0
IsSaidRightly disk came o n sector (Good good bad first) =
    IsRightlyGood (plan_of disk) disk.format came n
    (bytes_at disk.format o.image (track_at disk.format n) sector) sector first
IsSaidRightly disk came o n sector (Contradictory good bad first other) =
    IsRightlyContradictoryIn (plan_of disk) disk.format came n sector first other
IsSaidRightly disk came o n sector _ = Unit {0}

abbrev pub SaidIsRight : Type 0
SaidIsRight = (disk : DumpDisk) (came : Streams) (o : DumpsRead) (n sector number : ℕ)
    (said : IsSaid (plan_of disk) disk.format came (as_planned o) n sector number)
    → IsSaidRightly disk came o n sector (verdict (joined said.captures) sector)

-- What is good by the strict rule over what one clock reads of one dump, as `decode` reads by the
-- first clock, is good over all that is read of the dumps, with the same bytes, or contradictory.
abbrev pub StaysOrIsContradicted : DumpDisk → (came : Streams) → (n sector : ℕ)
    → (readings : List NotedReading) → Type 0
StaysOrIsContradicted disk came n sector readings =
    (q : ℕ) → q < length disk.dumps → (clock : Clock)
    → IsUsed (plan_of disk).clocks clock → (found : List Found)
    → AreReadings (header_at disk.format (track_at disk.format n))
    (sector_at disk.format (track_at disk.format n))
    (cells_in disk.format came n q clock) 0 found
    → let strict = readings_in q clock (came n q).times (came n q).indexes
    (cells_in disk.format came n q clock) found in
    (good bad : ℕ) (first : Place) → verdict strict sector ≡ Good good bad first
    → IsGoodTooOrContradicted strict readings sector

-- so it is with each sector, whatever the files are
abbrev pub GoodStaysOrIsContradicted : Type 0
GoodStaysOrIsContradicted = (disk : DumpDisk) (came : Streams) (o : DumpsRead)
    (n sector number : ℕ)
    (said : IsSaid (plan_of disk) disk.format came (as_planned o) n sector number)
    → StaysOrIsContradicted disk came n sector (joined said.captures)
