-- A stream as a list of blocks that are spelled one after another (KryoFlux stream protocol).
use Rattle.std.specs.Prelude.{◌≡◌, ◌≤◌, ◌<◌, ◌+◌, ◌-◌, ◌++◌, ◌↔◌, ℕ, true, List, [], ◌∷◌, length}
use Rattle.std.specs.Prelude.{map, flat_map, get_or, Some, None}
use Rattle.std.specs.List.Sorted.{IsStrictlyIncreasing}
use Rattle.kryo_stream.specs.declared.block.Block.{Block}
use Rattle.kryo_stream.specs.declared.block.Block.TheVariants.{Index}
use Rattle.kryo_stream.specs.declared.block.SpelledBlock.{SpelledBlock}
use Rattle.kryo_stream.specs.declared.fault.StreamFault.TheVariants.{IndexOrder, NoTurn}
use Rattle.kryo_stream.specs.Bench.{stream_step}
use Rattle.kryo_stream.specs.Protocol.{LIMIT}
use Rattle.kryo_stream.specs.Spelling.{spelling, IsWritable}
use Rattle.kryo_stream.specs.Stream.{in_stream_bytes, has_ended, block_ticks, ticks, is_end}
use Rattle.kryo_stream.specs.Stream.{first_fault, times, indexes, stream_length}
use Rattle.kryo_stream.specs.Tally.{new_times}
use Rattle.kryo_stream.specs.WellFormed.{MayStand}

-- the bytes of blocks, one after another
abbrev pub spellings : List Block → List ℕ
spellings blocks = flat_map spelling blocks

-- a block with the length of its spelling
abbrev pub spelled : Block → SpelledBlock
spelled block = record { block = block; bytes = length (spelling block) }

abbrev pub all_spelled : List Block → List SpelledBlock
all_spelled blocks = map spelled blocks

-- a block may stand between these and those: its numbers fit its fields, the protocol lets it stand
-- there, and it is an End exactly where no block stands after it
pub record StandsBetween (before : List Block) (block : Block) (behind : List Block) : Type 0 where
  pub numbers : IsWritable block
  pub place : MayStand (in_stream_bytes (all_spelled before)) (has_ended (all_spelled before)) block
  pub end : (is_end block ≡ true) ↔ (behind ≡ [])

-- the times of the transitions of blocks, of which the first begins at this time
abbrev pub transitions_from : ℕ → List Block → List ℕ
transitions_from time [] = []
transitions_from time (b ∷ bs) = new_times time b ++ transitions_from (time + block_ticks b) bs

-- a stream position lies before the end of the first block after these, so that the in-stream byte
-- there is that block's; where no block follows them, it is their own end
abbrev pub IsHeld : List SpelledBlock → List SpelledBlock → ℕ → Type 0
IsHeld before [] position = position ≡ in_stream_bytes before
IsHeld before (p ∷ ps) position = position < in_stream_bytes before + stream_step p

-- an Index block of this position and sample counter is at this time: it counts from the time at
-- which the block begins that the in-stream byte at the position belongs to, and after the last
-- byte from the time after all blocks
pub record IsTurnAt (blocks : List Block) (position sample time : ℕ) : Type 0 where
  pub before : List Block
  pub behind : List Block
  pub whole : before ++ behind ≡ blocks
  pub from : in_stream_bytes (all_spelled before) ≤ position
  pub to : IsHeld (all_spelled before) (all_spelled behind) position
  pub time_is : ticks (all_spelled before) + sample ≡ time

-- the Index blocks among some of the blocks are at these times, in order
abbrev pub TurnsAre : List Block → List Block → List ℕ → Type 0
TurnsAre blocks [] turns = turns ≡ []
TurnsAre blocks (Index position sample _ ∷ some) [] = ⊥
TurnsAre blocks (Index position sample _ ∷ some) (turn ∷ turns) =
    IsTurnAt blocks position sample turn × TurnsAre blocks some turns
TurnsAre blocks (_ ∷ some) turns = TurnsAre blocks some turns

-- the blocks obey the protocol's order: each may stand where it stands, they take no more bytes
-- than the longest stream, and their Index blocks, at least two, are at these times, which rise
pub record AreInOrder (blocks : List Block) (turns : List ℕ) : Type 0 where
  pub limit : length (spellings blocks) ≤ LIMIT
  pub each : (before : List Block) (block : Block) (behind : List Block)
      → before ++ block ∷ behind ≡ blocks
      → StandsBetween before block behind
  pub turns_are : TurnsAre blocks blocks turns
  pub enough : 2 ≤ length turns
  pub order : IsStrictlyIncreasing turns

-- the same, whatever the Index blocks' number and order are
pub record AreLaid (blocks : List Block) (turns : List ℕ) : Type 0 where
  pub limit : length (spellings blocks) ≤ LIMIT
  pub some : 0 < length blocks
  pub each : (before : List Block) (block : Block) (behind : List Block)
      → before ++ block ∷ behind ≡ blocks
      → StandsBetween before block behind
  pub turns_are : TurnsAre blocks blocks turns

-- the numbers of the Index blocks among some blocks, of which the first has this number
abbrev pub index_numbers : ℕ → List Block → List ℕ
index_numbers number [] = []
index_numbers number (Index _ _ _ ∷ blocks) = number ∷ index_numbers (number + 1) blocks
index_numbers number (_ ∷ blocks) = index_numbers (number + 1) blocks

-- The first fault of a stream of these blocks, where its index times do not rise: that of the first
-- Index block whose time is not above that of the one before it; or where they do and are fewer
-- than two: that of the End block.
pub record HasTurnFault (bytes : List ℕ) (blocks : List Block) (turns : List ℕ) : Type 0 where
  pub order : (k : ℕ) → k + 1 < length turns → get_or turns (k + 1) 0 ≤ get_or turns k 0
      → ((j : ℕ) → j < k → get_or turns j 0 < get_or turns (j + 1) 0)
      → first_fault bytes ≡ Some (get_or (index_numbers 0 blocks) (k + 1) 0, IndexOrder)
  pub none : IsStrictlyIncreasing turns → length turns < 2
      → first_fault bytes ≡ Some (length blocks - 1, NoTurn)

-- the bytes are one stream without a fault, with these transitions and index
-- times, and nothing stands after it
pub record IsStreamOf (bytes transitions turns : List ℕ) : Type 0 where
  pub no_fault : first_fault bytes ≡ None
  pub transitions_are : times bytes ≡ transitions
  pub turns_are : indexes bytes ≡ turns
  pub whole : stream_length bytes ≡ length bytes
