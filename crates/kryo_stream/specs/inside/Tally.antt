-- Steps of the crate's own functions, over what `Tally` defines.
use Rattle.std.specs.Prelude.{◌≡◌, ◌≤◌, ℕ, ◌+◌, ◌*◌, ◌||◌, false, List, length, All, if◌then◌else◌}
use Rattle.kryo_stream.specs.declared.block.SpelledBlock.{SpelledBlock}
use Rattle.kryo_stream.specs.declared.before.Before.{Before}
use Rattle.kryo_stream.specs.Protocol.{OVERFLOW_TICKS, LIMIT}
use Rattle.kryo_stream.specs.Stream.{total_bytes, is_in_stream, in_stream_bytes, is_stream_end}
use Rattle.kryo_stream.specs.Stream.{has_ended, block_ticks, ticks, times_of}

-- what stands before the first block
abbrev pub at_start : Before
at_start = record { offset = 0; counted = 0; ended = false; time = 0 }

-- what stands before the block after this one
abbrev pub behind : Before → SpelledBlock → Before
behind b p = record {
  offset = b.offset + p.bytes;
  counted = b.counted + (if is_in_stream p.block then p.bytes else 0);
  ended = b.ended || is_stream_end p.block;
  time = b.time + block_ticks p.block;
}

-- the numbers are as small as the limit of a stream makes them
pub record IsWithin (b : Before) : Type 0 where
  pub offset : b.offset ≤ LIMIT
  pub counted : b.counted ≤ b.offset
  pub time : b.time ≤ OVERFLOW_TICKS * b.offset

-- the block takes bytes, and no more than the limit leaves
pub record MayFollow (b : Before) (p : SpelledBlock) : Type 0 where
  pub some : 1 ≤ p.bytes
  pub room : b.offset + p.bytes ≤ LIMIT

-- these are the numbers and the times of the transitions of the blocks so far
pub record IsTally (ps : List SpelledBlock) (b : Before) (times : List ℕ) : Type 0 where
  pub offset : b.offset ≡ total_bytes ps
  pub counted : b.counted ≡ in_stream_bytes ps
  pub ended : b.ended ≡ has_ended ps
  pub time : b.time ≡ ticks ps
  pub within : IsWithin b
  pub times_are : times ≡ times_of ps
  pub in_order : All (λ t. t ≤ b.time) times
  pub few_times : length times ≤ b.offset
