-- What a disk comes to that is read by a plan: so many streams of each track, each by these clocks.
use Rattle.std.specs.Prelude.{◌≡◌, ◌<◌, ◌⊎◌, ℕ, zero, suc, ◌+◌, ◌*◌, Bool, true, false, List, []}
use Rattle.std.specs.Prelude.{◌∷◌, ◌++◌, length, flat_map, get_or, Option, Some, None}
use Rattle.flux_base.specs.declared.track.TrackId.{TrackId}
use Rattle.kryo_stream.specs.Stream.{first_fault, times, indexes}
use Rattle.kryo_stream.specs.declared.fault.StreamFault.{StreamFault}
use Rattle.kryo_stream.specs.declared.fault.StreamFault.TheVariants.{Truncated}
use Rattle.sector_images.specs.Places.{tracks}
use Rattle.sector_images.specs.declared.format.Format.{Format}
use Rattle.sector_report.specs.declared.dump_lines.Passed.{Passed}
use Rattle.sector_report.specs.declared.dump_lines.Passed.TheVariants.{Failed}
use Rattle.sector_report.specs.declared.naming.Naming.TheVariants.{ByCapture, ByClock, Unnamed}
use Rattle.turn_merge.specs.Others.{NotedOther}
use Rattle.turn_merge.specs.Readings.{NotedReading}
use Rattle.flux_engine.specs.Captured.{AreNamesOf, AreOthersOf, AreReadingsOf}
use Rattle.flux_engine.specs.Disks.{DiskReport, part_at, report_over}
use Rattle.flux_engine.specs.Recordings.{track_at}
use Rattle.flux_engine.specs.Streams.{stream_at}
use Rattle.flux_engine.specs.Tracks.{TrackNotes, TrackPart, track_notes}
use Rattle.flux_engine.specs.declared.fault.RefusedCapture.{RefusedCapture}
use Rattle.flux_engine.specs.declared.gathered_track.PassedStream.{PassedStream}
use Rattle.flux_engine.specs.declared.plan.Clocks.TheVariants.{Both, FollowingAlone}
use Rattle.flux_engine.specs.declared.plan.Plan.{Plan}
use Rattle.flux_engine.specs.declared.plan.Rule.TheVariants.{Strict}

-- What a stream says: the fault that ends the disk there, with the number of its block; or why it
-- is passed over; or else its transitions and index times. One that is passed over has no such
-- fault, no transitions and no index times.
pub record Seen : Type 0 where
  pub fault : Option (ℕ × StreamFault)
  pub passed : Option Passed
  pub times : List ℕ
  pub indexes : List ℕ

-- what the bytes that begin with a stream say of it: it is not passed over
abbrev pub seen : List ℕ → Seen
seen x = record { fault = first_fault x; passed = None; times = times x; indexes = indexes x }

-- the streams of a disk, by the number of the track and that of the capture
abbrev pub Streams : Type 0
Streams = ℕ → ℕ → Seen

-- those of an input in which they follow one another: the captures of a
-- track, and then those of the next
abbrev pub streams_in : Plan → List ℕ → Streams
streams_in plan x n q = seen (stream_at x (n * plan.captures + q))

-- the readings of the first captures of track number n
abbrev pub AreCaptures : Plan → Format → Streams → (n : ℕ) → List (List NotedReading) → Type 0
AreCaptures plan format streams n captures =
    (q : ℕ) → q < length captures
    → AreReadingsOf plan.rule plan.clocks format (track_at format n) (streams n q).times
    (streams n q).indexes q (get_or captures q [])

-- lists of readings, joined in order
abbrev pub joined : List (List NotedReading) → List NotedReading
joined captures = flat_map (λ readings. readings) captures

-- a capture with its number, where it is passed over
abbrev pub passed_one : ℕ → Option Passed → List PassedStream
passed_one q None = []
passed_one q (Some why) = record { capture = q; why = why } ∷ []

-- it is passed over since its file failed
abbrev pub is_failed : Option Passed → Bool
is_failed (Some Failed) = true
is_failed _ = false

-- which of the first captures of track number n are passed over, in order
abbrev pub passed_to : Streams → (n : ℕ) → ℕ → List PassedStream
passed_to streams n zero = []
passed_to streams n (suc q) = passed_to streams n q ++ passed_one q (streams n q).passed

-- all headers of the first captures of track number n that name none of
-- its sectors, capture by capture
abbrev pub AreOthersTo : Plan → Format → Streams → (n : ℕ) → ℕ → List NotedOther → Type 0
AreOthersTo plan format streams n zero others = others ≡ []
AreOthersTo plan format streams n (suc q) others =
    (before now : List NotedOther) × AreOthersTo plan format streams n q before
    × AreOthersOf plan.rule plan.clocks format (track_at format n) (streams n q).times
    (streams n q).indexes q now
    × (others ≡ before ++ now)

-- All headers of the first captures of a track that is none of the format's, capture by capture:
-- each is an other. They are read with the cells of the format's track that is nearest.
abbrev pub AreNamesTo : Plan → Format → (near : TrackId) → (captures : ℕ → Seen) → ℕ
    → List NotedOther → Type 0
AreNamesTo plan format near captures zero others = others ≡ []
AreNamesTo plan format near captures (suc q) others =
    (before now : List NotedOther) × AreNamesTo plan format near captures q before
    × AreNamesOf plan.clocks format near (captures q).times (captures q).indexes q now
    × (others ≡ before ++ now)

-- what becomes of what was gathered of a track: its part of the image, what
-- is said of it, and its totals
abbrev pub PartOf : Type 0
PartOf = Format → TrackId → TrackNotes → TrackPart

-- no capture of track number n has a fault, and this is what the track comes to by all their
-- readings, joined in order, and by those that are passed over, and by all others
pub record IsPlannedPart (plan : Plan) (of : PartOf) (format : Format) (streams : Streams) (n : ℕ)
    (part : TrackPart) : Type 0 where
  pub no_fault : (q : ℕ) → q < plan.captures → (streams n q).fault ≡ None
  pub captures : List (List NotedReading)
  pub many : length captures ≡ plan.captures
  pub each : AreCaptures plan format streams n captures
  pub others : List NotedOther
  pub others_are : AreOthersTo plan format streams n plan.captures others
  pub is : part
      ≡ of format (track_at format n)
      (track_notes (joined captures) (passed_to streams n plan.captures) others)

-- the first tracks, one for each part
abbrev pub ArePlannedParts : Plan → PartOf → Format → Streams → List TrackPart → Type 0
ArePlannedParts plan of format streams parts =
    (n : ℕ) → n < length parts → IsPlannedPart plan of format streams n (part_at parts n)

-- a capture of a track is read before another
abbrev pub IsBefore : (track capture later_track later_capture : ℕ) → Type 0
IsBefore track capture later_track later_capture =
    (track < later_track) ⊎ ((track ≡ later_track) × (capture < later_capture))

-- the first of the streams that has a fault, and that fault
pub record IsFirstFault (plan : Plan) (format : Format) (streams : Streams)
    (stop : RefusedCapture) : Type 0 where
  pub low : stop.track < length (tracks format)
  pub few : stop.capture < plan.captures
  pub clean : (n q : ℕ) → q < plan.captures → IsBefore n q stop.track stop.capture
      → (streams n q).fault ≡ None
  pub is : (streams stop.track stop.capture).fault ≡ Some (stop.block, stop.fault)

-- where reading stops: there, or nowhere
abbrev pub StopsAt : Plan → Format → Streams → Option RefusedCapture → Type 0
StopsAt plan format streams (Some stop) = IsFirstFault plan format streams stop
StopsAt plan format streams None =
    (n q : ℕ) → n < length (tracks format) → q < plan.captures → (streams n q).fault ≡ None

-- how many tracks are decoded: all before that of the stop, or all
abbrev pub planned_count : Format → Option RefusedCapture → ℕ
planned_count format (Some stop) = stop.track
planned_count format None = length (tracks format)

-- a disk that is read by a plan is stopped by a stream of a capture
abbrev pub Planned : Type 0
Planned = DiskReport RefusedCapture

-- what these streams come to: all tracks before that of the first
-- stream with a fault, or all tracks
pub record IsPlanned (plan : Plan) (of : PartOf) (format : Format) (streams : Streams)
    (o : Planned) : Type 0 where
  pub parts : List TrackPart
  pub each : ArePlannedParts plan of format streams parts
  pub stops : StopsAt plan format streams o.stop
  pub many : length parts ≡ planned_count format o.stop
  pub is : o ≡ report_over parts o.stop

-- the streams go on after these bytes: they end inside a block, and no stream before has a fault
abbrev pub EndsInPlan : Plan → Format → List ℕ → Type 0
EndsInPlan plan format x =
    (stop : RefusedCapture) × IsFirstFault plan format (streams_in plan x) stop × (stop.fault ≡ Truncated)

-- the plan by which a disk is decoded: one stream of each track, by the clock that follows the
-- drive, and lines that name no source
abbrev pub decoding : Plan
decoding = record { captures = 1; rule = Strict; clocks = FollowingAlone; naming = Unnamed }

-- that of a set: so many streams of each track, by the clock that follows the drive,
-- and lines that name the capture
abbrev pub set_plan : (count : ℕ) → Plan
set_plan count =
    record { captures = count; rule = Strict; clocks = FollowingAlone; naming = ByCapture }

-- that of a rescued disk: one stream of each track, by both clocks, and lines that name the clock
abbrev pub rescuing : Plan
rescuing = record { captures = 1; rule = Strict; clocks = Both; naming = ByClock }
