-- Streams whose times and faults were worked out by hand.
use Rattle.std.proofs.Common.{◌≡◌, refl, ℕ, ◌++◌, List, [], ◌∷◌, Some, None, length}
use Rattle.byteorder.specs.Endian.{little_bytes}
use Rattle.kryo_stream.specs.declared.fault.StreamFault.TheVariants.{Truncated, UnknownType, BadSize, WrongPosition, DeviceFault, DataAfterEnd, IndexPosition, IndexOrder, NoTurn}
use Rattle.std.specs.Prelude.{replicate}
use Rattle.kryo_stream.specs.Blocks.{out_of_band}
use Rattle.kryo_stream.specs.Padding.{padding_of}
use Rattle.kryo_stream.specs.Spelling.{spelling}
use Rattle.kryo_stream.specs.declared.block.Block.TheVariants.{Flux}
use Rattle.kryo_stream.specs.Stream.{first_fault, times, indexes, stream_length}

abbrev pub index_block : ℕ → ℕ → ℕ → List ℕ
index_block position sample counter = out_of_band 2 12 ++ little_bytes 4 position ++ little_bytes 4 sample ++ little_bytes 4 counter

abbrev pub end_block : List ℕ
end_block = 13 ∷ 13 ∷ 13 ∷ 13 ∷ []

abbrev pub numbers_block : ℕ → ℕ → ℕ → List ℕ
numbers_block kind position other = out_of_band kind 8 ++ little_bytes 4 position ++ little_bytes 4 other

-- two transitions in one turn, and a StreamEnd
abbrev pub one_turn : List ℕ
one_turn = index_block 0 0 0 ++ (96 ∷ 96 ∷ []) ++ index_block 2 5 24 ++ numbers_block 3 2 0 ++ end_block

one_turn-fault : first_fault one_turn ≡ None
one_turn-fault = refl

one_turn-times : times one_turn ≡ 96 ∷ 192 ∷ []
one_turn-times = refl

one_turn-indexes : indexes one_turn ≡ 0 ∷ 197 ∷ []
one_turn-indexes = refl

one_turn-length : stream_length one_turn ≡ length one_turn
one_turn-length = refl

-- no turn, and nothing
end_alone : first_fault end_block ≡ Some (0, NoTurn)
end_alone = refl

nothing : first_fault [] ≡ Some (0, Truncated)
nothing = refl

half_a_flux : first_fault (12 ∷ 1 ∷ []) ≡ Some (0, Truncated)
half_a_flux = refl

-- three overflows before one transition, an index within them, and one at the end of all in-stream bytes, or past it
abbrev pub overflows : ℕ → List ℕ
overflows last = index_block 0 0 0 ++ (11 ∷ 11 ∷ 11 ∷ 14 ∷ []) ++ index_block 2 100 0 ++ index_block last 0 0 ++ end_block

overflows-fault : first_fault (overflows 4) ≡ None
overflows-fault = refl

overflows-times : times (overflows 4) ≡ 196622 ∷ []
overflows-times = refl

overflows-indexes : indexes (overflows 4) ≡ 0 ∷ 131172 ∷ 196622 ∷ []
overflows-indexes = refl

position_behind_the_stream : first_fault (overflows 5) ≡ Some (6, IndexPosition)
position_behind_the_stream = refl

wrong_position : first_fault ((96 ∷ 96 ∷ []) ++ numbers_block 1 1 0 ++ end_block) ≡ Some (2, WrongPosition 1 2)
wrong_position = refl

device_fault : first_fault ((96 ∷ 96 ∷ []) ++ numbers_block 3 2 2 ++ end_block) ≡ Some (2, DeviceFault 2)
device_fault = refl

after_the_end : first_fault ((96 ∷ 96 ∷ []) ++ numbers_block 3 2 0 ++ (96 ∷ []) ++ end_block) ≡ Some (3, DataAfterEnd)
after_the_end = refl

unknown_type : first_fault (13 ∷ 5 ∷ 0 ∷ 0 ∷ []) ≡ Some (0, UnknownType 5)
unknown_type = refl

bad_size : first_fault (13 ∷ 2 ∷ 11 ∷ 0 ∷ []) ≡ Some (0, BadSize 11)
bad_size = refl

header_first : first_fault (13 ∷ 5 ∷ 0 ∷ []) ≡ Some (0, Truncated)
header_first = refl

no_rise : first_fault (index_block 0 7 0 ++ (96 ∷ []) ++ index_block 0 7 0 ++ end_block) ≡ Some (2, IndexOrder)
no_rise = refl

-- a position inside a block, and one before the index's own place
inside_blocks : indexes (index_block 1 3 0 ++ (1 ∷ 0 ∷ 9 ∷ 7 ∷ 200 ∷ []) ++ index_block 4 1 0 ++ end_block) ≡ 3 ∷ 257 ∷ []
inside_blocks = refl

-- a position where a block ends and the next begins, and one past the last in-stream byte
at_blocks : indexes (index_block 2 3 0 ++ (1 ∷ 0 ∷ 9 ∷ 7 ∷ 200 ∷ []) ++ index_block 5 1 0 ++ end_block) ≡ 259 ∷ 457 ∷ []
at_blocks = refl

-- a stream without a StreamEnd, and an Info and a Nop of three bytes that count for nothing
with_text : first_fault (index_block 0 0 0 ++ (13 ∷ 4 ∷ 2 ∷ 0 ∷ 7 ∷ 7 ∷ []) ++ (10 ∷ 1 ∷ 1 ∷ 96 ∷ []) ++ index_block 4 0 0 ++ numbers_block 1 4 0 ++ end_block) ≡ None
with_text = refl

too_few_bytes : first_fault (13 ∷ 4 ∷ 255 ∷ 255 ∷ []) ≡ Some (0, Truncated)
too_few_bytes = refl

-- 15, 16 and 17 bytes of padding before an End, and one before an in-stream block: the last 0D begins the next block
fifteen : padding_of (replicate 15 13 ++ index_block 0 0 0) ≡ 15
fifteen = refl

sixteen : padding_of (replicate 16 13 ++ index_block 0 0 0) ≡ 16
sixteen = refl

seventeen : padding_of (replicate 17 13 ++ index_block 0 0 0) ≡ 16
seventeen = refl

before_data : padding_of (13 ∷ 13 ∷ 96 ∷ []) ≡ 1
before_data = refl

nothing_else : padding_of (13 ∷ 13 ∷ 13 ∷ []) ≡ 3
nothing_else = refl

-- flux values are written in as few bytes as they fit
written_zero : spelling (Flux 0) ≡ 0 ∷ 0 ∷ []
written_zero = refl

written_13 : spelling (Flux 13) ≡ 0 ∷ 13 ∷ []
written_13 = refl

written_14 : spelling (Flux 14) ≡ 14 ∷ []
written_14 = refl

written_255 : spelling (Flux 255) ≡ 255 ∷ []
written_255 = refl

written_256 : spelling (Flux 256) ≡ 1 ∷ 0 ∷ []
written_256 = refl

written_2047 : spelling (Flux 2047) ≡ 7 ∷ 255 ∷ []
written_2047 = refl

written_2048 : spelling (Flux 2048) ≡ 12 ∷ 8 ∷ 0 ∷ []
written_2048 = refl

written_65535 : spelling (Flux 65535) ≡ 12 ∷ 255 ∷ 255 ∷ []
written_65535 = refl
