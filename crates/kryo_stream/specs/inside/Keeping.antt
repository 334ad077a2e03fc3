-- What is kept of the transitions that some bytes begin with.
use Rattle.std.specs.Prelude.{◌≡◌, ◌≤◌, ◌+◌, ◌-◌, ◌++◌, ℕ, false, List, length, drop}
use Rattle.index_turns.specs.Track.{TrackState, KeepsRoom}
use Rattle.kryo_stream.specs.declared.before.Before.{Before}
use Rattle.kryo_stream.specs.declared.block.Block.TheVariants.{Flux}
use Rattle.kryo_stream.specs.declared.front.LongFlux.{LongFlux}
use Rattle.kryo_stream.specs.Bench.{BenchState, KeepsBenchRoom}
use Rattle.kryo_stream.specs.Pieces.{piece, piece_at}
use Rattle.kryo_stream.specs.inside.Progress.{ReadsOn}
use Rattle.kryo_stream.specs.Protocol.{LIMIT}

-- the block at the front of the bytes is this transition, wherever it stands within the limit
-- and before the end of the stream
abbrev pub IsLongFlux : List ℕ → LongFlux → Type 0
IsLongFlux bytes long = (offset counted : ℕ) → offset + long.bytes ≤ LIMIT
    → piece_at offset counted false bytes ≡ piece (Flux long.ticks) long.bytes

-- so many times more are kept, in the room that was there
pub record AddsTimes (count : ℕ) (added : List ℕ) (old new : TrackState) : Type 0 where
  pub times : new.times ≡ old.times ++ added
  pub indexes : new.indexes ≡ old.indexes
  pub spare_times : new.spare_times + count ≡ old.spare_times
  pub spare_indexes : new.spare_indexes ≡ old.spare_indexes

-- so many in-stream bytes more are noted, with these ends and overflows
pub record AddsNotes (bytes : ℕ) (added begins : List ℕ) (old new : BenchState) : Type 0 where
  pub counted : new.counted ≡ old.counted + bytes
  pub ends : new.ends ≡ old.ends ++ added
  pub overflows : new.overflows ≡ old.overflows ++ begins
  pub indexes : new.indexes ≡ old.indexes

-- there is room for so many in-stream bytes more
abbrev pub HasRoomFor : ℕ → BenchState → Type 0
HasRoomFor bytes b = b.counted + bytes ≤ length b.ends + b.spare_ends

-- so many bytes and ends more are noted, in the room that was there
pub record AddsEnds (bytes count : ℕ) (added : List ℕ) (old new : BenchState) : Type 0 where
  pub counted : new.counted ≡ old.counted + bytes
  pub ends : new.ends ≡ old.ends ++ added
  pub overflows : new.overflows ≡ old.overflows
  pub indexes : new.indexes ≡ old.indexes
  pub spare_ends : new.spare_ends + count ≡ old.spare_ends
  pub spare_overflows : new.spare_overflows ≡ old.spare_overflows
  pub spare_indexes : new.spare_indexes ≡ old.spare_indexes

-- what stands before the block behind so many bytes of in-stream blocks
abbrev pub past : Before → ℕ → ℕ → Before
past b bytes time =
    record { offset = b.offset + bytes; counted = b.counted + bytes; ended = b.ended; time = time }

-- the transitions in the first `place` of these bytes are kept, up to this time, whatever stands
-- behind the bytes, and room is left for one more a byte
pub record KeepsFlux (bytes : List ℕ) (b : Before) (old new : TrackState)
    (bench bench' : BenchState) (place time : ℕ) : Type 0 where
  pub inside : place ≤ length bytes
  pub more : length old.times ≤ length new.times
  pub fewer : length new.times ≤ length old.times + place
  pub reading : (rest : List ℕ)
      → ReadsOn (length new.times - length old.times) (bytes ++ rest) (drop place bytes ++ rest)
      b (past b place time) old.times new.times bench bench'
  pub indexes : new.indexes ≡ old.indexes
  pub room : KeepsRoom old new
  pub bench_room : KeepsBenchRoom bench bench'
  pub spare : length bytes ≤ new.spare_times + place
  pub spare_ends : bench'.counted + length bytes ≤ length bench'.ends + bench'.spare_ends + place
