-- The objects of the outside that live in memory: what they hold, and which of their calls fail.
use Rattle.std.specs.Prelude.{if◌then◌else◌, ℕ, ◌-◌, ◌==◌, ◌&&◌, ◌||◌, ◌++◌, nat_lt, nat_le, min}
use Rattle.std.specs.Prelude.{Bool, List, length, take, drop, Result, Ok, Err}
use Rattle.std.specs.List.{list_any}
use Rattle.flux_base.specs.Outside.{risen}
use Rattle.flux_base.specs.declared.outside.Failed.{Failed}

-- a source in memory
pub record SourceState : Type 0 where
  -- the bytes still to come
  pub left : List ℕ
  -- the most bytes of one read
  pub chunk : ℕ
  -- the numbers of the calls that fail
  pub failing : List ℕ
  -- the number of calls so far
  pub calls : ℕ
  -- how many of them failed
  pub faults : ℕ

-- a sink in memory
pub record SinkState : Type 0 where
  -- the bytes taken so far
  pub written : List ℕ
  -- the most bytes that it takes in all
  pub room : ℕ
  -- the numbers of the calls that fail
  pub failing : List ℕ
  -- the number of calls so far
  pub calls : ℕ
  -- how many of them failed
  pub faults : ℕ

-- the call with this number is to fail
abbrev pub is_failing : List ℕ → ℕ → Bool
is_failing failing call = list_any (λ number. number == call) failing

-- how many bytes a read into a buffer of this length gives
abbrev pub given_of : SourceState → ℕ → ℕ
given_of s buffer = min (min s.chunk buffer) (length s.left)

-- what a read into a buffer of this length answers
abbrev pub read_of : SourceState → ℕ → Result ℕ Failed
read_of s buffer = if is_failing s.failing s.calls then Err (record {}) else Ok (given_of s buffer)

-- the source after that read
abbrev pub source_after : SourceState → ℕ → SourceState
source_after s buffer =
    if is_failing s.failing s.calls
    then record s { calls = risen s.calls; faults = risen s.faults }
    else record s { left = drop (given_of s buffer) s.left; calls = risen s.calls }

-- how many bytes of a piece of this length a write takes
abbrev pub taken_of : SinkState → ℕ → ℕ
taken_of s piece = min piece (s.room - length s.written)

-- a write of a piece of this length fails: its number is on the list, or a piece
-- that is not empty finds no room
abbrev pub write_fails : SinkState → ℕ → Bool
write_fails s piece =
    is_failing s.failing s.calls || (nat_lt 0 piece && nat_le s.room (length s.written))

-- what a write of a piece answers
abbrev pub write_of : SinkState → List ℕ → Result ℕ Failed
write_of s piece =
    if write_fails s (length piece) then Err (record {}) else Ok (taken_of s (length piece))

-- the sink after that write
abbrev pub sink_after : SinkState → List ℕ → SinkState
sink_after s piece =
    if write_fails s (length piece)
    then record s { calls = risen s.calls; faults = risen s.faults }
    else record s {
      written = s.written ++ take (taken_of s (length piece)) piece;
      calls = risen s.calls;
    }
