-- What a whole disk comes to of which each track has one stream: the strict disk, word for word.
use Rattle.std.specs.Prelude.{ℕ, Bool, List, is_some, ◌≡◌, length, ◌<◌, find, option_map}
use Rattle.std.specs.Prelude.{option_and_then, Option, Some, None}
use Rattle.kryo_stream.specs.Stream.{first_fault, times, indexes}
use Rattle.flux_engine.specs.Streams.{stream_at}
use Rattle.std.specs.List.{range_with_len}
use Rattle.flux_base.specs.declared.track.TrackId.{TrackId}
use Rattle.frame_law.specs.Readings.{AreReadings}
use Rattle.sector_images.specs.Places.{tracks}
use Rattle.sector_images.specs.declared.format.Format.{Format}
use Rattle.disk_recordings.specs.Members.{header_at, sector_at}
use Rattle.flux_engine.specs.Recordings.{cells_of, track_at}
use Rattle.flux_engine.specs.Tracks.{Found, readings_of, TrackPart, part_of}
use Rattle.kryo_stream.specs.declared.fault.StreamFault.{StreamFault}
use Rattle.flux_engine.specs.Disks.{part_at, DiskReport, report_over}

-- stream number n has a fault
abbrev pub has_fault : List ℕ → ℕ → Bool
has_fault x n = is_some (first_fault (stream_at x n))

-- all that can be read on a track with these transitions and index times, and what it comes to
pub record IsPart (format : Format) (track : TrackId) (times indexes : List ℕ)
    (part : TrackPart) : Type 0 where
  pub found : List Found
  pub all : AreReadings (header_at format track) (sector_at format track)
      (cells_of format track times indexes) 0 found
  pub is : part
      ≡ part_of format track (readings_of times indexes (cells_of format track times indexes) found)

-- the number of a track's stream, the number of a block in it, and the fault there
pub record Stop : Type 0 where
  pub track : ℕ
  pub block : ℕ
  pub fault : StreamFault

-- stream number n of x has no fault, and this is what its track comes to
pub record IsPartAt (format : Format) (x : List ℕ) (n : ℕ) (part : TrackPart) : Type 0 where
  pub no_fault : first_fault (stream_at x n) ≡ None
  pub comes : IsPart format (track_at format n) (times (stream_at x n)) (indexes (stream_at x n))
      part

-- the first tracks of x, one for each part
abbrev pub AreParts : Format → List ℕ → List TrackPart → Type 0
AreParts format x parts = (n : ℕ) → n < length parts → IsPartAt format x n (part_at parts n)

-- the first fault of a stream, with the stream's number
abbrev pub stop_at : List ℕ → ℕ → Option Stop
stop_at x n = option_map (λ fault. record { track = n; block = fault.0; fault = fault.1 })
    (first_fault (stream_at x n))

-- the first of the format's streams that has a fault, and that fault
unfoldable pub stop_of : Format → List ℕ → Option Stop
stop_of format x =
    option_and_then (stop_at x) (find (has_fault x) (range_with_len 0 (length (tracks format))))

-- how many tracks are decoded: all before the stop, or all
abbrev pub decoded_count : Format → Option Stop → ℕ
decoded_count format (Some stop) = stop.track
decoded_count format None = length (tracks format)

-- a disk that is decoded is stopped by a stream
abbrev pub Decoded : Type 0
Decoded = DiskReport Stop

-- what the input x of a format comes to: all tracks before the first
-- stream with a fault, or all tracks
pub record IsDecoded (format : Format) (x : List ℕ) (o : Decoded) : Type 0 where
  pub parts : List TrackPart
  pub each : AreParts format x parts
  pub many : length parts ≡ decoded_count format (stop_of format x)
  pub is : o ≡ report_over parts (stop_of format x)
