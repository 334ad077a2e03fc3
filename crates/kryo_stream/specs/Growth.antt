-- What a stream without a fault is when more bytes follow it, the same, and how many transitions
-- and index times it has.
use Rattle.std.specs.Prelude.{◌≡◌, ◌≤◌, ℕ, ◌++◌, List, length, None}
use Rattle.kryo_stream.specs.Padding.{unpadded}
use Rattle.kryo_stream.specs.Protocol.{LIMIT}
use Rattle.kryo_stream.specs.Stream.{first_fault, indexes, stream, stream_length, times}

-- x with these bytes after it begins with the stream that x begins with
pub record StaysStream (x later : List ℕ) : Type 0 where
  pub no_fault : first_fault (x ++ later) ≡ None
  pub blocks : stream (x ++ later) ≡ stream x
  pub within : stream_length x ≤ length x

abbrev pub StreamsStay : Type 0
StreamsStay = (x later : List ℕ) → first_fault x ≡ None → StaysStream x later

-- the padding before a stream without a fault stays what it is
abbrev pub PaddingStays : Type 0
PaddingStays = (x later : List ℕ) → first_fault (unpadded x) ≡ None
    → unpadded (x ++ later) ≡ unpadded x ++ later

-- a stream has no more transitions, and no more index times, than it may have bytes
abbrev pub StreamsAreShort : Type 0
StreamsAreShort =
    (x : List ℕ) → first_fault x ≡ None → (length (times x) ≤ LIMIT) × (length (indexes x) ≤ LIMIT)

-- nor has it more bytes
abbrev pub StreamsKeepTheLimit : Type 0
StreamsKeepTheLimit = (x : List ℕ) → first_fault x ≡ None → stream_length x ≤ LIMIT

-- it has two index times at least
abbrev pub StreamsHaveTurns : Type 0
StreamsHaveTurns = (x : List ℕ) → first_fault x ≡ None → 2 ≤ length (indexes x)
