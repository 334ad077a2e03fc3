-- The block that stands at one place of a stream, or its fault (KryoFlux stream protocol; which
-- fault comes first, and that a stream ends at 4194304 bytes, are our own choice).
use Rattle.std.specs.Prelude.{ℕ, ◌+◌, ◌-◌, ◌*◌, ◌==◌, Bool, List, length, drop}
use Rattle.std.specs.Prelude.{slice_index, nat_lt, nat_le, if◌then◌else◌, Result, Ok, Err}
use Rattle.byteorder.specs.Endian.{little_number}
use Rattle.kryo_stream.specs.Protocol.{OUT_OF_BAND, STREAM_INFO_TYPE, INDEX_TYPE, STREAM_END_TYPE}
use Rattle.kryo_stream.specs.Protocol.{INFO_TYPE, END_TYPE, STREAM_INFO_SIZE, INDEX_SIZE}
use Rattle.kryo_stream.specs.Protocol.{STREAM_END_SIZE, END_SIZE, LIMIT}
use Rattle.kryo_stream.specs.declared.block.Block.{Block}
use Rattle.kryo_stream.specs.declared.block.Block.TheVariants.{Flux, Overflow, Nop, StreamInfo}
use Rattle.kryo_stream.specs.declared.block.Block.TheVariants.{Index, StreamEnd, Info, End}
use Rattle.kryo_stream.specs.declared.block.SpelledBlock.{SpelledBlock}
use Rattle.kryo_stream.specs.declared.fault.StreamFault.{StreamFault}
use Rattle.kryo_stream.specs.declared.fault.StreamFault.TheVariants.{Truncated, UnknownType}
use Rattle.kryo_stream.specs.declared.fault.StreamFault.TheVariants.{BadSize, WrongPosition}
use Rattle.kryo_stream.specs.declared.fault.StreamFault.TheVariants.{DeviceFault, DataAfterEnd}
use Rattle.kryo_stream.specs.declared.fault.StreamFault.TheVariants.{TooLong}

-- a block or its fault
abbrev pub BlockOrFault : Type 0
BlockOrFault = Result SpelledBlock StreamFault

abbrev pub piece : Block → ℕ → BlockOrFault
piece block bytes = Ok (record { block = block; bytes = bytes })

-- the block at offset has its first `count` bytes, where `bytes` are those
-- that the input has from there on
abbrev pub has : ℕ → ℕ → List ℕ → Result (Unit {0}) StreamFault
has offset count bytes =
    if nat_lt LIMIT (offset + count) then Err TooLong
    else (if nat_lt (length bytes) count then Err Truncated else Ok tt)

-- the reading of a block where no fault comes first
abbrev pub unless_fault : Result (Unit {0}) StreamFault → BlockOrFault → BlockOrFault
unless_fault (Ok _) reading = reading
unless_fault (Err fault) _ = Err fault

-- a block that needs its first `count` bytes
abbrev pub needs : ℕ → ℕ → List ℕ → BlockOrFault → BlockOrFault
needs offset count bytes reading = unless_fault (has offset count bytes) reading

-- the size of an out-of-band block has to be that of its type
abbrev pub of_size : ℕ → ℕ → BlockOrFault → BlockOrFault
of_size wanted size reading = if size == wanted then reading else Err (BadSize size)

-- a position has to be the number of in-stream bytes so far
abbrev pub at_position : ℕ → ℕ → BlockOrFault → BlockOrFault
at_position counted said reading =
    if said == counted then reading else Err (WrongPosition said counted)

-- a result code has to be 0
abbrev pub without_failure : ℕ → BlockOrFault → BlockOrFault
without_failure code reading = if code == 0 then reading else Err (DeviceFault code)

-- two bytes from a place on, the higher first, as a number of ticks
abbrev pub ticks_at : ℕ → List ℕ → ℕ
ticks_at place bytes = slice_index bytes place * 256 + slice_index bytes (place + 1)

-- four bytes from a place on, the lowest first, as a number
abbrev pub number_at : ℕ → List ℕ → ℕ
number_at place bytes = little_number 4 (drop place bytes)

-- the in-stream block whose first byte is there
abbrev pub in_stream_piece : ℕ → ℕ → List ℕ → BlockOrFault
in_stream_piece offset first bytes =
    if nat_le first 7 then needs offset 2 bytes (piece (Flux (ticks_at 0 bytes)) 2)
    else (if nat_le first 10
    then needs offset (first - 7) bytes (piece (Nop (first - 7)) (first - 7))
    else (if first == 11 then piece Overflow 1
    else (if first == 12 then needs offset 3 bytes (piece (Flux (ticks_at 1 bytes)) 3)
    else piece (Flux first) 1)))

-- the StreamInfo block whose header is there
abbrev pub stream_info_piece : ℕ → ℕ → List ℕ → BlockOrFault
stream_info_piece offset counted bytes =
    needs offset 12 bytes (at_position counted (number_at 4 bytes)
    (piece (StreamInfo (number_at 4 bytes) (number_at 8 bytes)) 12))

-- the Index block whose header is there; its position is looked at once the whole stream is known
abbrev pub index_piece : ℕ → List ℕ → BlockOrFault
index_piece offset bytes = needs offset 16 bytes
    (piece (Index (number_at 4 bytes) (number_at 8 bytes) (number_at 12 bytes)) 16)

-- the StreamEnd block whose header is there
abbrev pub stream_end_piece : ℕ → ℕ → List ℕ → BlockOrFault
stream_end_piece offset counted bytes =
    needs offset 12 bytes (at_position counted (number_at 4 bytes)
    (without_failure (number_at 8 bytes)
    (piece (StreamEnd (number_at 4 bytes) (number_at 8 bytes)) 12)))

-- the Info block whose header, with this size, is there
abbrev pub info_piece : ℕ → ℕ → List ℕ → BlockOrFault
info_piece offset size bytes = needs offset (4 + size) bytes (piece (Info size) (4 + size))

-- the out-of-band block whose type and size are there
abbrev pub out_of_band_piece : ℕ → ℕ → ℕ → ℕ → List ℕ → BlockOrFault
out_of_band_piece offset counted kind size bytes =
    if kind == STREAM_INFO_TYPE
    then of_size STREAM_INFO_SIZE size (stream_info_piece offset counted bytes)
    else (if kind == INDEX_TYPE then of_size INDEX_SIZE size (index_piece offset bytes)
    else (if kind == STREAM_END_TYPE
    then of_size STREAM_END_SIZE size (stream_end_piece offset counted bytes)
    else (if kind == INFO_TYPE then info_piece offset size bytes
    else (if kind == END_TYPE then of_size END_SIZE size (piece End 4)
    else Err (UnknownType kind)))))

-- the block whose first byte is there
abbrev pub piece_from : ℕ → ℕ → Bool → ℕ → List ℕ → BlockOrFault
piece_from offset counted ended first bytes =
    if first == OUT_OF_BAND
    then needs offset 4 bytes
    (out_of_band_piece offset counted (slice_index bytes 1) (little_number 2 (drop 2 bytes))
    bytes)
    else (if ended then Err DataAfterEnd else in_stream_piece offset first bytes)

-- the block at the front of the bytes, where it begins at offset, so many in-stream bytes stand
-- before it, and a StreamEnd may stand before it
abbrev pub piece_at : ℕ → ℕ → Bool → List ℕ → BlockOrFault
piece_at offset counted ended bytes =
    needs offset 1 bytes (piece_from offset counted ended (slice_index bytes 0) bytes)
