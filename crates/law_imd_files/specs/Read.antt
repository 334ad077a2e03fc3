-- What the files of ImageDisk have of the sectors that `read` finds in the same streams.
use Rattle.std.specs.Prelude.{◌≡◌, ◌<◌, ◌⊎◌, ℕ, Contains, List, [], ◌∷◌, drop, length, true, false}
use Rattle.std.specs.Prelude.{Option, Some, None}
use Rattle.dump_reading.specs.DumpStreams.{IsOrFailed, seen_of}
use Rattle.flux_base.specs.declared.track.TrackId.{TrackId}
use Rattle.flux_engine.specs.LoopProgress.{seen_at}
use Rattle.flux_engine.specs.Plans.{AreCaptures, Seen, Streams, joined}
use Rattle.flux_engine.specs.Recordings.{cells_by, sectors_of, track_at}
use Rattle.flux_engine.specs.Rules.{StandsBy}
use Rattle.flux_engine.specs.Tracks.{image_bytes}
use Rattle.flux_engine.specs.declared.plan.Plan.{Plan}
use Rattle.flux_engine.specs.declared.plan.Rule.TheVariants.{Controller}
use Rattle.ibm_disks.specs.declared.rate.Rate.{Rate}
use Rattle.imd_image.specs.Found.{IsFoundOf, TrackFound, sectors_in}
use Rattle.imd_records.specs.declared.mode.Mode.{Mode}
use Rattle.law_imd_files.specs.Headline.{mode_of}
use Rattle.law_imd_tracks.specs.Standing.{HaveSector, rate_in}
use Rattle.name_book.specs.Names.{NameTold, NotedData}
use Rattle.name_book.specs.declared.name.SectorName.{SectorName}
use Rattle.scp_files.specs.declared.fault.ScpTrackFault.{ScpTrackFault}
use Rattle.sector_images.specs.declared.format.Format.{Format}
use Rattle.std.specs.Prelude.{Result}
use Rattle.turn_merge.specs.Readings.{NotedReading, verdict}
use Rattle.turn_merge.specs.declared.clock.Clock.{Clock}
use Rattle.turn_merge.specs.declared.verdict.Place.{Place}
use Rattle.turn_merge.specs.declared.verdict.Verdict.TheVariants.{Good}

-- among the headers and the data by a mode there is a name of the sector, with these bytes
abbrev pub IsInBook : {track : TrackId} {streams : List Seen} {found : TrackFound}
    → IsFoundOf track streams found → (mode : Mode) → Format → TrackId → (sector : ℕ)
    → (bytes : List ℕ) → Type 0
IsInBook are mode format on sector bytes =
    HaveSector format on sector bytes (are.names mode).headers (are.names mode).«data»

-- What stands as a sector in a stream's cells, by either clock, as controllers read a format of one
-- of IBM's two recordings, is in the book of the format's rate.
abbrev pub StandingSectorsAreInBooks : Type 0
StandingSectorsAreInBooks = (format : Format) (rate : Rate) → rate_in format ≡ Some rate
    → (track : TrackId) (streams : List Seen) (found : TrackFound)
    → (are : IsFoundOf track streams found)
    → (dump : ℕ) → dump < length streams → (seen_at streams dump).passed ≡ None
    → (clock : Clock) (on : TrackId) (place sector : ℕ) (bytes : List ℕ)
    → StandsBy Controller format on (drop place (cells_by clock format on
    (seen_at streams dump).times (seen_at streams dump).indexes)) sector bytes
    → IsInBook are (mode_of rate) format on sector bytes

-- a stream that is passed over has no transitions
abbrev pub IsEmptyOrRead : Seen → Type 0
IsEmptyOrRead seen = (seen.passed ≡ None) ⊎ (seen.times ≡ [])

-- So it is with what comes of the files of dumps.
abbrev pub ComingStreamsAreSo : Type 0
ComingStreamsAreSo = (file : Option (Result (List ℕ) ScpTrackFault)) (seen : Seen)
    → IsOrFailed seen (seen_of file) → IsEmptyOrRead seen

-- a plan by which controllers read is over the streams of one of a disk's tracks
pub record IsReadOf (plan : Plan) (came : Streams) (n : ℕ) (streams : List Seen) : Type 0 where
  pub rule : plan.rule ≡ Controller
  pub many : plan.captures ≡ length streams
  pub each : (dump : ℕ) → dump < length streams → came n dump ≡ seen_at streams dump
  pub empty : (dump : ℕ) → dump < length streams → IsEmptyOrRead (seen_at streams dump)

-- What `read` of a format calls good of a track is in the book of the format's rate that is made of
-- the same streams, with the bytes that the image has of it.
abbrev pub GoodSectorsAreInBooks : Type 0
GoodSectorsAreInBooks = (format : Format) (rate : Rate) → rate_in format ≡ Some rate
    → (track : TrackId) (streams : List Seen) (found : TrackFound)
    → (are : IsFoundOf track streams found)
    → (plan : Plan) (came : Streams) (n : ℕ) → IsReadOf plan came n streams
    → (captures : List (List NotedReading)) → length captures ≡ plan.captures
    → AreCaptures plan format came n captures
    → (sector good bad : ℕ) (first : Place) → verdict (joined captures) sector ≡ Good good bad first
    → IsInBook are (mode_of rate) format (track_at format n) sector
    (image_bytes (sectors_of format (track_at format n)) (joined captures) sector)

-- A name is told as whole. Its data are these or, where others are too, contradictory, and they are
-- these where all data of the name are. It is a sector of the record if that has the mode and the
-- size.
pub record IsToldWith (found : TrackFound) (mode : Mode) (noted : List NotedData)
    (name : SectorName) (held : List ℕ) : Type 0 where
  pub told : NameTold
  pub there : Contains (found.names mode).told told
  pub name_is : told.name ≡ name
  pub whole : told.whole ≡ true
  pub either : (told.agreed ≡ None) ⊎ (told.agreed ≡ Some held)
  pub agreed : ((d : NotedData) → Contains noted d → d.name ≡ name → d.held ≡ held)
      → told.agreed ≡ Some held
  pub in_file : found.choice.mode ≡ mode → found.choice.code ≡ name.code
      → Contains (sectors_in found) told

-- So it is with what is in the book of a mode, where that has no more than 255 names.
abbrev pub SectorsOfBooksAreTold : Type 0
SectorsOfBooksAreTold =
    (track : TrackId) (streams : List Seen) (found : TrackFound)
    (are : IsFoundOf track streams found) (mode : Mode) → (found.names mode).more ≡ false
    → (format : Format) (on : TrackId) (sector : ℕ) (bytes : List ℕ)
    → (has : IsInBook are mode format on sector bytes)
    → IsToldWith found mode (are.names mode).«data» has.name (has.mark ∷ bytes)
