-- What the contents of a sector come to that are kept of all readings of its track.
use Rattle.std.specs.Prelude.{◌≡◌, ◌<◌, ℕ, Contains, List, Some, length}
use Rattle.sector_images.specs.declared.format.Format.{Format}
use Rattle.track_shelf.specs.Files.{File}
use Rattle.turn_merge.specs.Readings.{NotedReading, good_ones}
use Rattle.turn_merge.specs.declared.clock.Clock.{Clock}
use Rattle.flux_engine.specs.PlanLaws.{IsNamedIn, StandsIn}
use Rattle.flux_engine.specs.Plans.{AreCaptures, Seen, Streams, joined}
use Rattle.flux_engine.specs.declared.plan.Rule.TheVariants.{Controller}
use Rattle.dump_reading.specs.DumpStreams.{FailedAlike}
use Rattle.dump_reading.specs.Reports.{dump_plan}
use Rattle.sector_copies.specs.Copies.{Copy, MOST_COPIES, copies_over}
use Rattle.sector_copies.specs.Shown.{IsSectorShown, SectorAsked, SectorShown}
use Rattle.sector_copies.specs.TrackReadings.{streams_of}

-- the contents that are kept of a sector of a track with these readings
abbrev pub copies_in : List (List NotedReading) → (sector : ℕ) → List Copy
copies_in captures sector = copies_over (good_ones (joined captures) sector)

-- these are all readings of so many streams of a track, dump by dump
pub record AreAllReadings (count : ℕ) (format : Format) (streams : Streams) (n : ℕ)
    (captures : List (List NotedReading)) : Type 0 where
  pub many : length captures ≡ count
  pub each : AreCaptures (dump_plan count) format streams n captures

-- each content names a place of a dump, by one of the clocks, in its turn there, and the cells hold
-- the sector there with these bytes
abbrev pub CopiesAreNamed : Type 0
CopiesAreNamed =
    (count : ℕ) (format : Format) (streams : Streams) (n : ℕ) (captures : List (List NotedReading))
    → AreAllReadings count format streams n captures
    → (sector : ℕ) (copy : Copy) → Contains (copies_in captures sector) copy
    → IsNamedIn (dump_plan count) format streams n copy.first sector copy.bytes

-- Where there is room for one more, they are all contents that the cells of any dump
-- hold of the sector, by any clock.
abbrev pub CopiesAreTheContents : Type 0
CopiesAreTheContents =
    (count : ℕ) (format : Format) (streams : Streams) (n : ℕ) (captures : List (List NotedReading))
    → AreAllReadings count format streams n captures
    → (sector : ℕ) → length (copies_in captures sector) < MOST_COPIES
    → (q : ℕ) (clock : Clock) (place : ℕ) (bytes : List ℕ) → q < count
    → StandsIn Controller format streams n q clock place sector bytes
    → (copy : Copy) × Contains (copies_in captures sector) copy × (copy.bytes ≡ bytes)

-- the streams decide them
abbrev pub CopiesAreOne : Type 0
CopiesAreOne =
    (count : ℕ) (format : Format) (streams : Streams) (n : ℕ) (a b : List (List NotedReading))
    → AreAllReadings count format streams n a → AreAllReadings count format streams n b
    → (sector : ℕ) → copies_in a sector ≡ copies_in b sector

-- these are all readings of the streams that came of a sector's track
abbrev pub AreReadingsOfCame : SectorAsked → List Seen → List (List NotedReading) → Type 0
AreReadingsOfCame asked came captures = AreAllReadings (length asked.disk.dumps) asked.disk.format
    (streams_of came) asked.number captures

-- Where the streams that came have lists of all their readings, which reading them makes, the
-- files, and which of them failed, decide what is shown of a sector: it is one at most.
abbrev pub ShownIsOne : Type 0
ShownIsOne = (asked : SectorAsked) (files : List File) (a b : SectorShown)
    (p : IsSectorShown asked (Some files) a) (q : IsSectorShown asked (Some files) b)
    → FailedAlike p.came q.came → (captures : List (List NotedReading))
    → AreReadingsOfCame asked p.came captures → a ≡ b
