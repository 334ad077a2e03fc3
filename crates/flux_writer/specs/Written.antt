-- The stream that is written for the times of transitions and the index times, for a
-- list of cells, and for a ring (KryoFlux stream protocol; which part of the repeated
-- ring is written is our own choice).
use Rattle.std.specs.Prelude.{ℕ, ◌+◌, ◌-◌, ◌*◌, ◌/◌, ◌%◌, ◌^◌, ◌++◌, ◌&&◌, Bool, false, List, []}
use Rattle.std.specs.Prelude.{◌∷◌, length, take, drop, map, filter, flat_map, get_or, slice_index}
use Rattle.std.specs.Prelude.{nat_lt, nat_le, replicate}
use Rattle.std.specs.List.{list_all, range_with_len}
use Rattle.kryo_stream.specs.declared.block.Block.{Block}
use Rattle.kryo_stream.specs.declared.block.Block.TheVariants.{Flux, Overflow, Index, StreamEnd}
use Rattle.kryo_stream.specs.declared.block.Block.TheVariants.{End}
use Rattle.kryo_stream.specs.Protocol.{OVERFLOW_TICKS}
use Rattle.kryo_stream.specs.Sequence.{spellings}

-- the time at which interval number k begins: that of the transition before, or 0
abbrev pub begin_of : List ℕ → ℕ → ℕ
begin_of times k = slice_index (0 ∷ times) k

-- the blocks of an interval of so many ticks
abbrev pub interval_blocks : ℕ → List Block
interval_blocks ticks =
    replicate (ticks / OVERFLOW_TICKS) Overflow ++ Flux (ticks % OVERFLOW_TICKS) ∷ []

-- the blocks of interval number k, which ends with transition number k
abbrev pub interval_of : List ℕ → ℕ → List Block
interval_of times k = interval_blocks (slice_index times k - begin_of times k)

-- the in-stream bytes before interval number k: those of the intervals before it
abbrev pub in_stream_before : List ℕ → ℕ → ℕ
in_stream_before times k = length (spellings (flat_map (interval_of times) (range_with_len 0 k)))

-- transition number k is the first whose time is above the index time
abbrev pub is_first_above : List ℕ → ℕ → ℕ → Bool
is_first_above times k index =
    nat_lt index (slice_index times k) && list_all (λ time. nat_le time index) (take k times)

-- how many ticks the clock of the index counter takes
abbrev pub INDEX_CLOCK : ℕ
INDEX_CLOCK = 8

-- the Index block of an index time, in an interval that begins at this stream position and time:
-- its position is that of the last block of the interval that begins at or before the index, its
-- sample counter the ticks from there on, and its index counter has 32 bits
abbrev pub index_block : ℕ → ℕ → ℕ → Block
index_block position begin index =
    Index (position + (index - begin) / OVERFLOW_TICKS) ((index - begin) % OVERFLOW_TICKS)
    (index / INDEX_CLOCK % 2 ^ 32)

-- the blocks of transition number k: the Index blocks of the index times that
-- belong to it, and its interval
abbrev pub transition_blocks : List ℕ → List ℕ → ℕ → List Block
transition_blocks times indexes k =
    map (index_block (in_stream_before times k) (begin_of times k))
    (filter (is_first_above times k) indexes)
    ++ interval_of times k

-- the blocks of a written stream
abbrev pub stream_blocks : List ℕ → List ℕ → List Block
stream_blocks times indexes =
    flat_map (transition_blocks times indexes) (range_with_len 0 (length times))
    ++ StreamEnd (in_stream_before times (length times)) 0 ∷ End ∷ []

-- the stream of these transitions and index times
abbrev pub stream_of_times : List ℕ → List ℕ → List ℕ
stream_of_times times indexes = spellings (stream_blocks times indexes)

-- the time at the end of cell number K, from 0, in ticks, where a cell is so
-- many fine units of 1/1024 tick
abbrev pub cell_time : ℕ → ℕ → ℕ
cell_time nominal K = (K + 1) * nominal / 1024

-- the numbers of the cells that are ones
abbrev pub ones_of : List Bool → List ℕ
ones_of cells = filter (λ K. get_or cells K false) (range_with_len 0 (length cells))

-- the stream of these cells, a transition for each one, with an index at the
-- time of each of the index cells
abbrev pub stream_of_turns : List Bool → List ℕ → ℕ → List ℕ
stream_of_turns cells turns nominal =
    stream_of_times (map (cell_time nominal) (ones_of cells)) (map (cell_time nominal) turns)

abbrev pub quarter : List Bool → ℕ
quarter ring = length ring / 4

-- the cells of a ring that are written: its last quarter, three turns, its first quarter
abbrev pub track_cells : List Bool → List Bool
track_cells ring =
    drop (length ring - quarter ring) ring ++ (ring ++ (ring ++ (ring ++ take (quarter ring) ring)))

-- the index cells of a ring: where the turns begin, and where the last one ends
abbrev pub track_turns : List Bool → List ℕ
track_turns ring =
    quarter ring ∷ (quarter ring + length ring) ∷ (quarter ring + 2 * length ring)
    ∷ (quarter ring + 3 * length ring) ∷ []

-- the stream of a ring
abbrev pub stream_of : List Bool → ℕ → List ℕ
stream_of ring nominal = stream_of_turns (track_cells ring) (track_turns ring) nominal
