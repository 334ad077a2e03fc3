-- The stream that a capture of an SCP file stands for: that of its transitions and index times,
-- as they would be written.
use Rattle.std.specs.Prelude.{◌≡◌, ℕ, ◌||◌, Bool, false, true, List, length, nat_le, nat_lt}
use Rattle.std.specs.Prelude.{Some, Result, Ok, Err}
use Rattle.index_turns.specs.Track.{TrackState}
use Rattle.kryo_stream.specs.Protocol.{LIMIT}
use Rattle.kryo_stream.specs.Sequence.{IsStreamOf}
use Rattle.kryo_stream.specs.Stream.{first_fault}
use Rattle.track_rings.specs.Rings.{last_in}
use Rattle.flux_writer.specs.Trailing.{stream_of_capture}
use Rattle.scp_files.specs.Units.{moments, transitions}
use Rattle.scp_files.specs.declared.fault.CaptureRefused.{CaptureRefused}
use Rattle.scp_files.specs.declared.fault.CaptureRefused.TheVariants.{TooLong, Refused}

-- the first time, in ticks, that is too late for a stream's numbers
abbrev pub END_OF_TIME : ℕ
END_OF_TIME = 4294967296

-- the last transition or index time is too late, or the stream would be longer than one may be
abbrev pub is_too_long : (times indexes : List ℕ) → Bool
is_too_long times indexes =
    nat_le END_OF_TIME (last_in times) || nat_le END_OF_TIME (last_in indexes)
    || nat_lt LIMIT (length (stream_of_capture times indexes))

-- the stream of these entries and durations
abbrev pub stream_of : (resolution : ℕ) → (values durations : List ℕ) → List ℕ
stream_of resolution values durations =
    stream_of_capture (transitions resolution values) (moments resolution durations)

abbrev pub is_too_long_of : (resolution : ℕ) → (values durations : List ℕ) → Bool
is_too_long_of resolution values durations =
    is_too_long (transitions resolution values) (moments resolution durations)

-- The stream is one without a fault, whose times these are.
pub record IsStream (resolution : ℕ) (values durations : List ℕ) (flux : TrackState) : Type 0 where
  pub short : is_too_long_of resolution values durations ≡ false
  pub stream : IsStreamOf (stream_of resolution values durations) flux.times flux.indexes
  pub times : flux.times ≡ transitions resolution values
  pub indexes : flux.indexes ≡ moments resolution durations

-- what an answer says of the stream
abbrev pub Says : (resolution : ℕ) → (values durations : List ℕ) → (flux : TrackState)
    → Result (Unit {0}) CaptureRefused → Type 0
Says resolution values durations flux (Ok _) = IsStream resolution values durations flux
Says resolution values durations flux (Err TooLong) =
    is_too_long_of resolution values durations ≡ true
Says resolution values durations flux (Err (Refused block fault)) =
    (is_too_long_of resolution values durations ≡ false)
    × (first_fault (stream_of resolution values durations) ≡ Some (block, fault))
