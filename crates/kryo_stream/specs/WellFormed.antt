-- A well-formed stream (KryoFlux stream protocol), as a list of blocks
-- that cut the bytes into pieces.
use Rattle.std.specs.Prelude.{◌≡◌, ◌≤◌, ◌<◌, ◌+◌, ◌↔◌, ℕ, Bool, true, false, List, All, length}
use Rattle.std.specs.Prelude.{take, drop, slice_get, Some}
use Rattle.std.specs.List.Sorted.{IsStrictlyIncreasing}
use Rattle.kryo_stream.specs.declared.block.Block.{Block}
use Rattle.kryo_stream.specs.declared.block.Block.TheVariants.{Flux, Overflow, Nop, StreamInfo}
use Rattle.kryo_stream.specs.declared.block.Block.TheVariants.{Index, StreamEnd, Info, End}
use Rattle.kryo_stream.specs.declared.block.SpelledBlock.{SpelledBlock}
use Rattle.kryo_stream.specs.Blocks.{Spells}
use Rattle.kryo_stream.specs.Protocol.{LIMIT}
use Rattle.kryo_stream.specs.Spelling.{IsWritable}
use Rattle.kryo_stream.specs.Stream.{total_bytes, in_stream_bytes, has_ended, is_end, marks}
use Rattle.kryo_stream.specs.Stream.{indexes_of}

-- no in-stream block stands after a StreamEnd, a position is the number of in-stream bytes
-- so far, and a result code is 0
abbrev pub MayStand : ℕ → Bool → Block → Type 0
MayStand counted ended (Flux _) = ended ≡ false
MayStand counted ended Overflow = ended ≡ false
MayStand counted ended (Nop _) = ended ≡ false
MayStand counted ended (StreamInfo position _) = position ≡ counted
MayStand counted ended (Index _ _ _) = Unit {0}
MayStand counted ended (StreamEnd position code) = (position ≡ counted) × (code ≡ 0)
MayStand counted ended (Info _) = Unit {0}
MayStand counted ended End = Unit {0}

-- the bytes begin with a spelling of the block, whose numbers fit its
-- fields, and it may stand there
pub record IsBlockOf (counted : ℕ) (ended : Bool) (bytes : List ℕ) (p : SpelledBlock) : Type 0 where
  pub within : p.bytes ≤ length bytes
  pub spelled : Spells (take p.bytes bytes) p.block
  pub numbers : IsWritable p.block
  pub place : MayStand counted ended p.block

-- the block of x after these blocks
abbrev pub IsBlockBehind : List ℕ → List SpelledBlock → SpelledBlock → Type 0
IsBlockBehind x before p =
    IsBlockOf (in_stream_bytes before) (has_ended before) (drop (total_bytes before) x) p

-- x begins with a well-formed stream of these blocks
pub record BeginsWith (x : List ℕ) (ps : List SpelledBlock) : Type 0 where
  pub limit : total_bytes ps ≤ LIMIT
  pub blocks : (j : ℕ) (p : SpelledBlock) → slice_get ps j ≡ Some p → IsBlockBehind x (take j ps) p
  -- the last and no other is an End
  pub some : 0 < length ps
  pub last : (j : ℕ) (p : SpelledBlock) → slice_get ps j ≡ Some p
      → (is_end p.block ≡ true) ↔ (j + 1 ≡ length ps)
  pub turns : 2 ≤ length (marks ps)
  pub positions : All (λ mark. mark.position ≤ in_stream_bytes ps) (marks ps)
  pub order : IsStrictlyIncreasing (indexes_of ps)
