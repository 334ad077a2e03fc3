-- What resolving the index positions of a stream needs of its blocks.
use Rattle.std.specs.Prelude.{◌≡◌, ◌≤◌, ◌<◌, ℕ, ◌+◌, ◌-◌, ◌^◌, ◌++◌, List, [], ◌∷◌, All}
use Rattle.std.specs.Prelude.{length, if◌then◌else◌}
use Rattle.std.specs.List.{range_with_len}
use Rattle.kryo_stream.specs.declared.block.Block.{Block}
use Rattle.kryo_stream.specs.declared.block.Block.TheVariants.{Flux, Overflow, Nop, StreamInfo}
use Rattle.kryo_stream.specs.declared.block.Block.TheVariants.{Index, StreamEnd, Info, End}
use Rattle.kryo_stream.specs.declared.block.SpelledBlock.{SpelledBlock}
use Rattle.kryo_stream.specs.declared.block.Mark.{Mark}
use Rattle.kryo_stream.specs.Protocol.{LIMIT}
use Rattle.kryo_stream.specs.Stream.{in_stream_bytes, is_in_stream, marks}

-- the most Index blocks of one stream: each takes 16 bytes
abbrev pub MOST_MARKS : ℕ
MOST_MARKS = 262144

-- the positions from low to high are all but these
abbrev pub AreSkipped : ℕ → List ℕ → ℕ → Type 0
AreSkipped low [] high = low ≤ high
AreSkipped low (s ∷ ss) high = (low < s) × AreSkipped s ss high

abbrev pub ends_between : ℕ → List ℕ → ℕ → List ℕ
ends_between low [] high = range_with_len (low + 1) (high - low)
ends_between low (s ∷ ss) high =
    range_with_len (low + 1) (s - (low + 1)) ++ ends_between s ss high

-- the stream position after all blocks, the stream positions after the Flux blocks, the stream
-- positions of the Overflow blocks, the Index blocks, and how many more of each fit without taking
-- memory
pub record BenchState : Type 0 where
  pub counted : ℕ
  pub ends : List ℕ
  pub overflows : List ℕ
  pub indexes : List Mark
  pub spare_ends : ℕ
  pub spare_overflows : ℕ
  pub spare_indexes : ℕ

-- room for all blocks of any stream
pub record HasFullBench (b : BenchState) : Type 0 where
  pub for_ends : LIMIT ≤ length b.ends + b.spare_ends
  pub for_overflows : LIMIT ≤ length b.overflows + b.spare_overflows
  pub for_indexes : MOST_MARKS ≤ length b.indexes + b.spare_indexes

-- what was noted stays as it was
pub record KeepsNotes (old new : BenchState) : Type 0 where
  pub counted : new.counted ≡ old.counted
  pub ends : new.ends ≡ old.ends
  pub overflows : new.overflows ≡ old.overflows
  pub indexes : new.indexes ≡ old.indexes

-- no room is lower than it was
pub record KeepsBenchRoom (old new : BenchState) : Type 0 where
  pub for_ends : length old.ends + old.spare_ends ≤ length new.ends + new.spare_ends
  pub for_overflows : length old.overflows + old.spare_overflows
      ≤ length new.overflows + new.spare_overflows
  pub for_indexes : length old.indexes + old.spare_indexes ≤ length new.indexes + new.spare_indexes

-- how far a block moves the stream position
abbrev pub stream_step : SpelledBlock → ℕ
stream_step p = if is_in_stream p.block then p.bytes else 0

abbrev pub end_of : ℕ → Block → List ℕ
end_of position (Flux _) = position ∷ []
end_of _ _ = []

-- the stream positions after the Flux blocks, where the first block stands at this position
abbrev pub flux_ends : ℕ → List SpelledBlock → List ℕ
flux_ends position [] = []
flux_ends position (p ∷ ps) =
    end_of (position + stream_step p) p.block ++ flux_ends (position + stream_step p) ps

abbrev pub overflow_of : ℕ → Block → List ℕ
overflow_of position Overflow = position ∷ []
overflow_of _ _ = []

-- the stream positions of the Overflow blocks
abbrev pub overflow_begins : ℕ → List SpelledBlock → List ℕ
overflow_begins position [] = []
overflow_begins position (p ∷ ps) =
    overflow_of position p.block ++ overflow_begins (position + stream_step p) ps

-- a block takes a byte at least, an Overflow one and an Index 16; a flux value is below 65536,
-- a sample counter below 2 ^ 32
abbrev pub IsSizedBlock : Block → ℕ → Type 0
IsSizedBlock (Flux ticks) bytes = (1 ≤ bytes) × (ticks < 2 ^ 16)
IsSizedBlock Overflow bytes = bytes ≡ 1
IsSizedBlock (Nop _) bytes = 1 ≤ bytes
IsSizedBlock (StreamInfo _ _) bytes = 1 ≤ bytes
IsSizedBlock (Index _ sample _) bytes = (bytes ≡ 16) × (sample < 2 ^ 32)
IsSizedBlock (StreamEnd _ _) bytes = 1 ≤ bytes
IsSizedBlock (Info _) bytes = 1 ≤ bytes
IsSizedBlock End bytes = 1 ≤ bytes

abbrev pub IsSized : SpelledBlock → Type 0
IsSized p = IsSizedBlock p.block p.bytes

-- all blocks so far are noted
pub record IsNoted (ps : List SpelledBlock) (b : BenchState) : Type 0 where
  pub sizes : All IsSized ps
  pub counted : b.counted ≡ in_stream_bytes ps
  pub flux : b.ends ≡ flux_ends 0 ps
  pub overflow : b.overflows ≡ overflow_begins 0 ps
  pub index : b.indexes ≡ marks ps
