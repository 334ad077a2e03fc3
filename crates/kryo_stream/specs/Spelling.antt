-- The bytes that a written block has (KryoFlux stream protocol). Where the protocol
-- lets a writer choose, as at the length of a flux value and at the content of a Nop
-- or an Info, the choice is ours.
use Rattle.std.specs.Prelude.{◌≤◌, ◌<◌, ◌+◌, ◌-◌, ◌/◌, ◌%◌, ◌^◌, ◌++◌, ◌&&◌, ℕ, List, [], ◌∷◌}
use Rattle.std.specs.Prelude.{if◌then◌else◌, nat_lt, nat_le}
use Rattle.std.proofs.Math.ListN.{replicate}
use Rattle.byteorder.specs.Endian.{little_bytes}
use Rattle.kryo_stream.specs.Protocol.{STREAM_INFO_TYPE, INDEX_TYPE, STREAM_END_TYPE, INFO_TYPE}
use Rattle.kryo_stream.specs.Protocol.{STREAM_INFO_SIZE, INDEX_SIZE, STREAM_END_SIZE}
use Rattle.kryo_stream.specs.declared.block.Block.{Block}
use Rattle.kryo_stream.specs.declared.block.Block.TheVariants.{Flux, Overflow, Nop, StreamInfo}
use Rattle.kryo_stream.specs.declared.block.Block.TheVariants.{Index, StreamEnd, Info, End}
use Rattle.kryo_stream.specs.Blocks.{out_of_band}

-- a flux value below 65536: one byte from 0E to FF, two bytes up to 07FF, else three
abbrev pub flux_spelling : ℕ → List ℕ
flux_spelling ticks =
    if nat_le 14 ticks && nat_lt ticks 256 then ticks ∷ []
    else (if nat_lt ticks 2048 then (ticks / 256) ∷ (ticks % 256) ∷ []
    else 12 ∷ (ticks / 256) ∷ (ticks % 256) ∷ [])

-- the bytes of a written block
abbrev pub spelling : Block → List ℕ
spelling (Flux ticks) = flux_spelling ticks
spelling Overflow = 11 ∷ []
spelling (Nop bytes) = (7 + bytes) ∷ replicate (bytes - 1) 0
spelling (StreamInfo position time) =
    out_of_band STREAM_INFO_TYPE STREAM_INFO_SIZE ++ little_bytes 4 position ++ little_bytes 4 time
spelling (Index position sample counter) =
    out_of_band INDEX_TYPE INDEX_SIZE ++ little_bytes 4 position ++ little_bytes 4 sample
    ++ little_bytes 4 counter
spelling (StreamEnd position code) =
    out_of_band STREAM_END_TYPE STREAM_END_SIZE ++ little_bytes 4 position ++ little_bytes 4 code
spelling (Info length) = out_of_band INFO_TYPE length ++ replicate length 32
spelling End = 13 ∷ 13 ∷ 13 ∷ 13 ∷ []

-- a Nop has 1 to 3 bytes
abbrev pub HasNopBytes : Block → Type 0
HasNopBytes (Flux _) = Unit {0}
HasNopBytes Overflow = Unit {0}
HasNopBytes (Nop bytes) = (1 ≤ bytes) × (bytes ≤ 3)
HasNopBytes (StreamInfo _ _) = Unit {0}
HasNopBytes (Index _ _ _) = Unit {0}
HasNopBytes (StreamEnd _ _) = Unit {0}
HasNopBytes (Info _) = Unit {0}
HasNopBytes End = Unit {0}

-- the numbers of a block fit its fields, and a Nop has 1 to 3 bytes
abbrev pub IsWritable : Block → Type 0
IsWritable (Flux ticks) = ticks < 2 ^ 16
IsWritable Overflow = Unit {0}
IsWritable (Nop bytes) = (1 ≤ bytes) × (bytes ≤ 3)
IsWritable (StreamInfo position time) = (position < 2 ^ 32) × (time < 2 ^ 32)
IsWritable (Index position sample counter) =
    (position < 2 ^ 32) × (sample < 2 ^ 32) × (counter < 2 ^ 32)
IsWritable (StreamEnd position code) = (position < 2 ^ 32) × (code < 2 ^ 32)
IsWritable (Info length) = length < 2 ^ 16
IsWritable End = Unit {0}
