-- Streams of which all bytes are at hand.
use Rattle.std.specs.Prelude.{◌≡◌, ◌≤◌, ◌+◌, ◌++◌, ℕ, List, [], drop, length, Some}
use Rattle.index_turns.specs.Track.{TrackState}
use Rattle.kryo_stream.specs.Outcome.{IsStream}
use Rattle.kryo_stream.specs.Protocol.{LIMIT, MOST_HELD}
use Rattle.kryo_stream.specs.Stream.{first_fault, stream_length}
use Rattle.kryo_stream.specs.declared.fault.StreamFault.{StreamFault}
use Rattle.kryo_stream.specs.declared.fault.StreamFault.TheVariants.{Truncated}

-- the most bytes that the reading of a stream takes, behind padding
abbrev pub MOST_TAKEN : ℕ
MOST_TAKEN = LIMIT + MOST_HELD

-- whatever follows them, these bytes begin with a stream of so many bytes, which is this track's
pub record HoldsStream (held : List ℕ) (flux : TrackState) (size : ℕ) : Type 0 where
  pub is : (later : List ℕ) → IsStream (held ++ later) flux (drop size held ++ later)
  pub size_is : (later : List ℕ) → stream_length (held ++ later) ≡ size
  pub within : size ≤ length held

-- Whatever follows them, this is the first fault of these bytes, with its block's number; only
-- where they end inside a block, nothing follows. They are no more then than the reading of a
-- stream takes.
pub record HoldsFault (held : List ℕ) (fault : ℕ × StreamFault) : Type 0 where
  pub is : (later : List ℕ) → (fault.1 ≡ Truncated → later ≡ [])
      → first_fault (held ++ later) ≡ Some fault
  pub few : fault.1 ≡ Truncated → length held ≤ MOST_TAKEN
