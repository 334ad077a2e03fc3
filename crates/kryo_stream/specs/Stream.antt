-- A stream as a whole: its blocks, its times, and its first fault (KryoFlux stream protocol).
use Rattle.std.specs.Prelude.{ℕ, zero, suc, ◌+◌, ◌-◌, ◌++◌, ◌&&◌, Bool, true, false, List, [], ◌∷◌}
use Rattle.std.specs.Prelude.{length, take, drop, map, sum_by, find, get_or, slice_get, nat_lt}
use Rattle.std.specs.Prelude.{nat_le, if◌then◌else◌, Option, Some, None, unwrap_or, Ok, Err}
use Rattle.std.specs.List.{list_any, filter_map, range_with_len}
use Rattle.std.specs.Option.{option_and_then, option_or}
use Rattle.kryo_stream.specs.declared.block.Block.{Block}
use Rattle.kryo_stream.specs.declared.block.Block.TheVariants.{Flux, Overflow, Nop, StreamInfo}
use Rattle.kryo_stream.specs.declared.block.Block.TheVariants.{Index, StreamEnd, Info, End}
use Rattle.kryo_stream.specs.declared.block.Mark.{Mark}
use Rattle.kryo_stream.specs.declared.block.SpelledBlock.{SpelledBlock}
use Rattle.kryo_stream.specs.declared.fault.StreamFault.{StreamFault}
use Rattle.kryo_stream.specs.declared.fault.StreamFault.TheVariants.{IndexPosition, IndexOrder}
use Rattle.kryo_stream.specs.declared.fault.StreamFault.TheVariants.{NoTurn}
use Rattle.kryo_stream.specs.Protocol.{OVERFLOW_TICKS}
use Rattle.kryo_stream.specs.Pieces.{BlockOrFault, piece_at}

-- the bytes of so many blocks
abbrev pub total_bytes : List SpelledBlock → ℕ
total_bytes ps = sum_by (λ p. p.bytes) ps

-- all blocks are in-stream blocks but those that begin with 0D
abbrev pub is_in_stream : Block → Bool
is_in_stream (Flux _) = true
is_in_stream Overflow = true
is_in_stream (Nop _) = true
is_in_stream (StreamInfo _ _) = false
is_in_stream (Index _ _ _) = false
is_in_stream (StreamEnd _ _) = false
is_in_stream (Info _) = false
is_in_stream End = false

-- the stream position after so many blocks
abbrev pub in_stream_bytes : List SpelledBlock → ℕ
in_stream_bytes ps = sum_by (λ p. if is_in_stream p.block then p.bytes else 0) ps

abbrev pub is_stream_end : Block → Bool
is_stream_end (StreamEnd _ _) = true
is_stream_end _ = false

-- a StreamEnd stands among the blocks
abbrev pub has_ended : List SpelledBlock → Bool
has_ended ps = list_any (λ p. is_stream_end p.block) ps

abbrev pub block_ticks : Block → ℕ
block_ticks (Flux ticks) = ticks
block_ticks Overflow = OVERFLOW_TICKS
block_ticks _ = 0

-- the time that so many blocks take, in ticks
abbrev pub ticks : List SpelledBlock → ℕ
ticks ps = sum_by (λ p. block_ticks p.block) ps

-- the time of a transition is that of all blocks up to it and with it
abbrev pub flux_time : List SpelledBlock → Block → Option ℕ
flux_time up_to (Flux _) = Some (ticks up_to)
flux_time up_to _ = None

-- the time of the transition of block number j, if it is one
abbrev pub time_at : List SpelledBlock → ℕ → Option ℕ
time_at ps j = option_and_then (λ p. flux_time (take (j + 1) ps) p.block) (slice_get ps j)

-- the times of the transitions
abbrev pub times_of : List SpelledBlock → List ℕ
times_of ps = filter_map (time_at ps) (range_with_len 0 (length ps))

abbrev pub mark_of : ℕ → Block → Option Mark
mark_of number (Index position sample _) =
    Some (record { number = number; position = position; sample = sample })
mark_of number _ = None

abbrev pub mark_at : List SpelledBlock → ℕ → Option Mark
mark_at ps j = option_and_then (λ p. mark_of j p.block) (slice_get ps j)

-- the Index blocks, in order
abbrev pub marks : List SpelledBlock → List Mark
marks ps = filter_map (mark_at ps) (range_with_len 0 (length ps))

-- the in-stream byte at this stream position belongs to block number j
abbrev pub holds_byte : List SpelledBlock → ℕ → ℕ → Bool
holds_byte ps position j =
    nat_le (in_stream_bytes (take j ps)) position
    && nat_lt position (in_stream_bytes (take (j + 1) ps))

-- the number of the block that the byte belongs to, and after the last
-- byte the number of all blocks
abbrev pub block_of_byte : List SpelledBlock → ℕ → ℕ
block_of_byte ps position =
    unwrap_or (find (holds_byte ps position) (range_with_len 0 (length ps))) (length ps)

-- an index time counts from the time at which the block begins that the Index's
-- position names (our own choice)
abbrev pub index_time : List SpelledBlock → Mark → ℕ
index_time ps mark = ticks (take (block_of_byte ps mark.position) ps) + mark.sample

-- the index times
abbrev pub indexes_of : List SpelledBlock → List ℕ
indexes_of ps = map (index_time ps) (marks ps)

-- the fault of Index number k, which is this one: its position is past the stream's end, or else
-- its time is not above that of the Index before it
abbrev pub mark_fault : List SpelledBlock → ℕ → Mark → Option (ℕ × StreamFault)
mark_fault ps k mark =
    if nat_lt (in_stream_bytes ps) mark.position then Some (mark.number, IndexPosition)
    else (if nat_lt 0 k && nat_le (index_time ps mark) (get_or (indexes_of ps) (k - 1) 0)
    then Some (mark.number, IndexOrder)
    else None)

abbrev pub mark_fault_at : List SpelledBlock → ℕ → Option (ℕ × StreamFault)
mark_fault_at ps k = option_and_then (mark_fault ps k) (slice_get (marks ps) k)

-- the faults of the Index blocks, in order
abbrev pub mark_faults : List SpelledBlock → List (ℕ × StreamFault)
mark_faults ps = filter_map (mark_fault_at ps) (range_with_len 0 (length (marks ps)))

-- what is wrong with the turns of a stream whose blocks have no fault: the first fault of an Index
-- block, or else fewer than two Index blocks, which is a fault of the End block
abbrev pub turn_fault : List SpelledBlock → Option (ℕ × StreamFault)
turn_fault ps = option_or (slice_get (mark_faults ps) 0)
    (if nat_lt (length (marks ps)) 2 then Some (length ps - 1, NoTurn) else None)

-- the block at the front of the bytes, where these blocks stand before it
abbrev pub piece_after : List SpelledBlock → List ℕ → BlockOrFault
piece_after ps bytes = piece_at (total_bytes ps) (in_stream_bytes ps) (has_ended ps) bytes

-- the block of x after these blocks, or its fault
abbrev pub piece_behind : List ℕ → List SpelledBlock → BlockOrFault
piece_behind x ps = piece_after ps (drop (total_bytes ps) x)

-- one block more, if there is one without a fault
abbrev pub with_piece : List SpelledBlock → BlockOrFault → List SpelledBlock
with_piece ps (Ok p) = ps ++ p ∷ []
with_piece ps (Err _) = ps

abbrev pub more_pieces : List ℕ → List SpelledBlock → List SpelledBlock
more_pieces x ps = with_piece ps (piece_behind x ps)

-- the first n blocks of x
abbrev pub pieces : List ℕ → ℕ → List SpelledBlock
pieces x zero = []
pieces x (suc n) = more_pieces x (pieces x n)

abbrev pub is_end : Block → Bool
is_end End = true
is_end _ = false

-- a fault, or an End
abbrev pub is_last : BlockOrFault → Bool
is_last (Ok p) = is_end p.block
is_last (Err _) = true

-- x is read no further than its block number n
abbrev pub stops_at : List ℕ → ℕ → Bool
stops_at x n = is_last (piece_behind x (pieces x n))

-- the number of the first block of x that has a fault or is an End
abbrev pub last_block : List ℕ → ℕ
last_block x = unwrap_or (find (stops_at x) (range_with_len 0 (length x + 1))) (length x)

abbrev pub fault_at : List ℕ → ℕ → BlockOrFault → Option (ℕ × StreamFault)
fault_at x n (Ok _) = turn_fault (pieces x (n + 1))
fault_at x n (Err fault) = Some (n, fault)

-- the first fault of x, with its block's number: of a block up to the
-- first End, or else of its turns
abbrev pub first_fault : List ℕ → Option (ℕ × StreamFault)
first_fault x = fault_at x (last_block x) (piece_behind x (pieces x (last_block x)))

-- the blocks of the stream that x begins with, where it has no first fault
abbrev pub stream : List ℕ → List SpelledBlock
stream x = pieces x (last_block x + 1)

-- the times of its transitions, its index times, and what stands after it
abbrev pub times : List ℕ → List ℕ
times x = times_of (stream x)

abbrev pub indexes : List ℕ → List ℕ
indexes x = indexes_of (stream x)

abbrev pub stream_length : List ℕ → ℕ
stream_length x = total_bytes (stream x)
