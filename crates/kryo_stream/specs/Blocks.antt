-- How blocks are spelled (KryoFlux stream protocol, "Stream Block Format"
-- and "Out of Band Block Format").
use Rattle.std.specs.Prelude.{◌≡◌, ◌<◌, ◌≤◌, ◌+◌, ◌*◌, ◌++◌, ◌⊎◌, ℕ, List, [], ◌∷◌, length}
use Rattle.byteorder.specs.Endian.{little_bytes}
use Rattle.kryo_stream.specs.Protocol.{OUT_OF_BAND, STREAM_INFO_TYPE, INDEX_TYPE, STREAM_END_TYPE}
use Rattle.kryo_stream.specs.Protocol.{INFO_TYPE, STREAM_INFO_SIZE, INDEX_SIZE, STREAM_END_SIZE}
use Rattle.kryo_stream.specs.declared.block.Block.{Block}
use Rattle.kryo_stream.specs.declared.block.Block.TheVariants.{Flux, Overflow, Nop, StreamInfo}
use Rattle.kryo_stream.specs.declared.block.Block.TheVariants.{Index, StreamEnd, Info, End}

-- one byte from 0E to FF is its own number of ticks
abbrev pub SpellsOneByte : List ℕ → ℕ → Type 0
SpellsOneByte bytes ticks = (14 ≤ ticks) × (ticks < 256) × (bytes ≡ ticks ∷ [])

-- two bytes, the first from 00 to 07
abbrev pub SpellsTwoBytes : List ℕ → ℕ → Type 0
SpellsTwoBytes bytes ticks =
    (high : ℕ) × (low : ℕ) × (high < 8) × (bytes ≡ high ∷ low ∷ []) × (ticks ≡ high * 256 + low)

-- 0C and two bytes
abbrev pub SpellsThreeBytes : List ℕ → ℕ → Type 0
SpellsThreeBytes bytes ticks =
    (high : ℕ) × (low : ℕ) × (bytes ≡ 12 ∷ high ∷ low ∷ []) × (ticks ≡ high * 256 + low)

-- 08, 09 or 0A and content of no meaning, one to three bytes in all
abbrev pub SpellsNop : List ℕ → ℕ → Type 0
SpellsNop bytes count = (content : List ℕ) × (count < 4) × (length content + 1 ≡ count)
    × (bytes ≡ (7 + count) ∷ content)

-- 0D, the type and the size, which begin an out-of-band block
abbrev pub out_of_band : ℕ → ℕ → List ℕ
out_of_band kind size = (OUT_OF_BAND ∷ kind ∷ []) ++ little_bytes 2 size

-- a text of this length after its header
abbrev pub SpellsInfo : List ℕ → ℕ → Type 0
SpellsInfo bytes size =
    (content : List ℕ) × (length content ≡ size) × (bytes ≡ out_of_band INFO_TYPE size ++ content)

-- the bytes are a spelling of the block
abbrev pub Spells : List ℕ → Block → Type 0
Spells bytes (Flux ticks) =
    SpellsOneByte bytes ticks ⊎ (SpellsTwoBytes bytes ticks ⊎ SpellsThreeBytes bytes ticks)
Spells bytes Overflow = bytes ≡ 11 ∷ []
Spells bytes (Nop count) = SpellsNop bytes count
Spells bytes (StreamInfo position time) = bytes
    ≡ out_of_band STREAM_INFO_TYPE STREAM_INFO_SIZE ++ little_bytes 4 position
    ++ little_bytes 4 time
Spells bytes (Index position sample counter) =
    bytes
    ≡ out_of_band INDEX_TYPE INDEX_SIZE ++ little_bytes 4 position ++ little_bytes 4 sample
    ++ little_bytes 4 counter
Spells bytes (StreamEnd position code) = bytes
    ≡ out_of_band STREAM_END_TYPE STREAM_END_SIZE ++ little_bytes 4 position ++ little_bytes 4 code
Spells bytes (Info size) = SpellsInfo bytes size
Spells bytes End = bytes ≡ 13 ∷ 13 ∷ 13 ∷ 13 ∷ []
