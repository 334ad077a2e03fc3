-- What a track of an SCP file comes to: the stream that it stands for, of which a file is made, and
-- what is told of it.
use Rattle.std.specs.Prelude.{ℕ, ◌/◌, ◌%◌, List, option_map, Option, Some, None}
use Rattle.flux_base.specs.declared.track.TrackId.{TrackId}
use Rattle.scp_files.specs.Disks.{kept_stream, refusal_of}
use Rattle.scp_files.specs.Streams.{stream_of}
use Rattle.scp_files.specs.Tracks.{durations_of, read_count, track_fault, values_of}
use Rattle.scp_files.specs.declared.fault.ScpTrackFault.{ScpTrackFault}
use Rattle.scp_files.specs.declared.fault.TrackTold.{TrackTold}
use Rattle.scp_files.specs.declared.fault.TrackTold.TheVariants.{Fault}
use Rattle.scp_tracks.specs.declared.track.TrackPlace.{TrackPlace}

-- cylinder C and head H have the number 2 C + H
abbrev pub track_of : (number : ℕ) → TrackId
track_of number = record { cylinder = number / 2; head = number % 2 }

-- the stream of a track, by its number, where a file is made of it; and what is told of it
pub record TrackCame : Type 0 where
  pub number : ℕ
  pub stream : Option (List ℕ)
  pub told : Option TrackTold

-- of a track that is refused no file is made
abbrev pub stream_by : (refusal : Option TrackTold) → (stream : List ℕ) → Option (List ℕ)
stream_by (Some why) stream = None
stream_by None stream = Some stream

abbrev pub told_by : (refusal : Option TrackTold) → Option ScpTrackFault → Option TrackTold
told_by (Some why) fault = Some why
told_by None fault = option_map Fault fault

abbrev pub came_by : (number : ℕ) → (refusal : Option TrackTold) → Option ScpTrackFault
    → (stream : List ℕ) → TrackCame
came_by number refusal fault stream =
    record { number = number; stream = stream_by refusal stream; told = told_by refusal fault }

-- by the revolutions that were read, so many
abbrev pub came_of_count : (resolution number : ℕ) → Option ScpTrackFault → (track : List ℕ)
    → (count : ℕ) → TrackCame
came_of_count resolution number fault track count =
    came_by number
    (refusal_of (kept_stream fault resolution (values_of track count) (durations_of track count)))
    fault (stream_of resolution (values_of track count) (durations_of track count))

abbrev pub came_of : (resolution : ℕ) → TrackPlace → (track : List ℕ) → TrackCame
came_of resolution place track =
    came_of_count resolution place.number (track_fault place.revolutions place.number track) track
    (read_count place.revolutions place.number track)
