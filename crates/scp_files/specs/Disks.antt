-- The tracks of an SCP file, each with the stream that it stands for.
use Rattle.std.specs.Prelude.{ℕ, ◌+◌, ◌*◌, nat_lt, if◌then◌else◌, Bool, true, false, List, drop}
use Rattle.std.specs.Prelude.{option_map, Option, Some, None, Result, Ok, Err}
use Rattle.flux_base.specs.declared.track.TrackId.{TrackId}
use Rattle.kryo_stream.specs.Stream.{first_fault}
use Rattle.kryo_stream.specs.declared.fault.StreamFault.{StreamFault}
use Rattle.scp_files.specs.Files.{file_fault, resolution_of, revolutions_of, track_offset}
use Rattle.scp_files.specs.Streams.{is_too_long_of, stream_of}
use Rattle.scp_files.specs.Tracks.{durations_of, read_count, track_fault, values_of}
use Rattle.scp_files.specs.declared.fault.ScpFault.{ScpFault}
use Rattle.scp_files.specs.declared.fault.ScpTrackFault.{ScpTrackFault}
use Rattle.scp_files.specs.declared.fault.ScpTrackFault.TheVariants.{ShortData, TooLong}
use Rattle.scp_files.specs.declared.fault.TrackTold.{TrackTold}
use Rattle.scp_files.specs.declared.fault.TrackTold.TheVariants.{Fault, Refused}

-- why a track is refused that is not whole, if it is: where the file ends inside a revolution that
-- is not the first, those before are kept
abbrev pub refusing : Option ScpTrackFault → Option ScpTrackFault
refusing None = None
refusing (Some (ShortData revolution)) =
    if nat_lt 0 revolution then None else Some (ShortData revolution)
refusing (Some fault) = Some fault

-- a stream, unless the track is refused, or the stream would be too long
abbrev pub stream_unless : Option ScpTrackFault → (too_long : Bool) → (stream : List ℕ)
    → Result (List ℕ) ScpTrackFault
stream_unless (Some fault) too_long stream = Err fault
stream_unless None true stream = Err TooLong
stream_unless None false stream = Ok stream

-- the stream of what was read of a track that has this fault, or none
abbrev pub kept_stream : Option ScpTrackFault → (resolution : ℕ) → (values durations : List ℕ)
    → Result (List ℕ) ScpTrackFault
kept_stream fault resolution values durations =
    stream_unless (refusing fault) (is_too_long_of resolution values durations)
    (stream_of resolution values durations)

-- the stream that a track stands for, or why it stands for none
abbrev pub track_stream : (resolution revolutions number : ℕ) → (track : List ℕ)
    → Result (List ℕ) ScpTrackFault
track_stream resolution revolutions number track =
    kept_stream (track_fault revolutions number track) resolution
    (values_of track (read_count revolutions number track))
    (durations_of track (read_count revolutions number track))

-- why its stream cannot be read, or why there is none
abbrev pub refused_by : Option (ℕ × StreamFault) → Option TrackTold
refused_by None = None
refused_by (Some (block, fault)) = Some (Refused block fault)

abbrev pub refusal_of : Result (List ℕ) ScpTrackFault → Option TrackTold
refusal_of (Err fault) = Some (Fault fault)
refusal_of (Ok stream) = refused_by (first_fault stream)

-- the number of a track in a file
abbrev pub scp_number : TrackId → ℕ
scp_number track = 2 * track.cylinder + track.head

-- a file that has a fault has no tracks
abbrev pub offset_unless : Option ScpFault → (offset : Option ℕ) → Option ℕ
offset_unless (Some fault) offset = None
offset_unless None offset = offset

-- a track of a file, where the file has it: the stream that it stands for, or why it stands for
-- none
abbrev pub scp_track : (file : List ℕ) → TrackId → Option (Result (List ℕ) ScpTrackFault)
scp_track file track =
    option_map
    (λ offset. track_stream (resolution_of file) (revolutions_of file) (scp_number track)
    (drop offset file))
    (offset_unless (file_fault file) (track_offset file (scp_number track)))
