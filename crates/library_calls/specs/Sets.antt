-- What a disk comes to of which several streams capture each track: it
-- is read by the plan of a set.
use Rattle.std.specs.Prelude.{ℕ, ◌+◌, ◌*◌, List}
use Rattle.sector_images.specs.declared.format.Format.{Format}
use Rattle.sector_report.specs.declared.naming.Naming.TheVariants.{ByCapture}
use Rattle.flux_engine.specs.Plans.{EndsInPlan, IsPlanned, IsPlannedPart, PartOf, Planned, Streams}
use Rattle.flux_engine.specs.Plans.{streams_in, set_plan}
use Rattle.flux_engine.specs.Streams.{stream_at}
use Rattle.flux_engine.specs.Tracks.{TrackPart, part_by}

-- the streams of an input: the captures of a track follow one another
abbrev pub set_streams : (count : ℕ) → (x : List ℕ) → Streams
set_streams count x = streams_in (set_plan count) x

-- that which is capture number q of track number n, with all that stands after it
abbrev pub capture_stream : (count : ℕ) → (x : List ℕ) → (n q : ℕ) → List ℕ
capture_stream count x n q = stream_at x (n * count + q)

-- what a track comes to by the readings of all its captures: as by those of one,
-- with lines that name the capture
abbrev pub set_part_of : PartOf
set_part_of = part_by ByCapture

-- no capture of track number n has a fault, and this is what the track comes to by all
-- their readings, joined in order
abbrev pub IsSetPartAt : Format → (count : ℕ) → (x : List ℕ) → (n : ℕ) → TrackPart → Type 0
IsSetPartAt format count x n part =
    IsPlannedPart (set_plan count) set_part_of format (set_streams count x) n part

-- what the input x of a format comes to, with so many captures of each track: all tracks before
-- that of the first stream with a fault, or all tracks
abbrev pub IsDecodedSet : Format → (count : ℕ) → (x : List ℕ) → Planned → Type 0
IsDecodedSet format count x o =
    IsPlanned (set_plan count) set_part_of format (set_streams count x) o

-- the streams go on after these bytes: they end inside a block, and no stream before has a fault
abbrev pub EndsInCaptures : Format → (count : ℕ) → List ℕ → Type 0
EndsInCaptures format count x = EndsInPlan (set_plan count) format x
