-- The stream of a capture whose last index times may stand behind its last transition
-- (KryoFlux stream protocol; where their blocks stand is our own choice).
use Rattle.std.specs.Prelude.{◌≡◌, ◌≤◌, ◌<◌, ℕ, ◌+◌, ◌-◌, ◌/◌, ◌%◌, ◌^◌, ◌++◌, List, [], ◌∷◌}
use Rattle.std.specs.Prelude.{count_by, filter, flat_map, get_or, length, map, nat_le, Some}
use Rattle.std.specs.List.{list_all, range_with_len}
use Rattle.std.specs.List.Sorted.{IsStrictlyIncreasing}
use Rattle.kryo_stream.specs.declared.block.Block.{Block}
use Rattle.kryo_stream.specs.declared.block.Block.TheVariants.{Index, StreamEnd, End}
use Rattle.kryo_stream.specs.declared.fault.StreamFault.TheVariants.{IndexOrder, NoTurn}
use Rattle.kryo_stream.specs.Sequence.{spellings}
use Rattle.kryo_stream.specs.Stream.{first_fault}
use Rattle.flux_writer.specs.Written.{INDEX_CLOCK, begin_of, in_stream_before, interval_of}
use Rattle.flux_writer.specs.Written.{transition_blocks}

-- the index times that no transition is above
abbrev pub trailing_indexes : List ℕ → List ℕ → List ℕ
trailing_indexes times indexes =
    filter (λ index. list_all (λ time. nat_le time index) times) indexes

-- the Index block of such an index time, behind a last transition at this time: its position is
-- that of the stream's end, and its sample counter the ticks since that transition
abbrev pub trailing_block : (position last index : ℕ) → Block
trailing_block position last index =
    Index position (index - last) (index / INDEX_CLOCK % 2 ^ 32)

-- the blocks of a stream of all these times: those of each transition, the Index blocks of the
-- index times that no transition is above, and the end
abbrev pub capture_blocks : List ℕ → List ℕ → List Block
capture_blocks times indexes =
    flat_map (transition_blocks times indexes) (range_with_len 0 (length times))
    ++ (map (trailing_block (in_stream_before times (length times)) (begin_of times (length times)))
    (trailing_indexes times indexes)
    ++ StreamEnd (in_stream_before times (length times)) 0 ∷ End ∷ [])

-- the stream of these transitions and index times
abbrev pub stream_of_capture : List ℕ → List ℕ → List ℕ
stream_of_capture times indexes = spellings (capture_blocks times indexes)

-- how many blocks the first n intervals have
abbrev pub blocks_before : List ℕ → ℕ → ℕ
blocks_before times n = length (flat_map (interval_of times) (range_with_len 0 n))

-- how many transitions are not above an index time
abbrev pub passed_by : List ℕ → ℕ → ℕ
passed_by times index = count_by (λ time. nat_le time index) times

-- The first fault of the stream, where its index times do not rise: that of the Index block of the
-- first that is not above the one before it; or where they do and are fewer than two: that of the
-- End block.
pub record HasCaptureFault (times indexes : List ℕ) : Type 0 where
  pub order : (k : ℕ) → k + 1 < length indexes
      → get_or indexes (k + 1) 0 ≤ get_or indexes k 0
      → ((j : ℕ) → j < k → get_or indexes j 0 < get_or indexes (j + 1) 0)
      → first_fault (stream_of_capture times indexes)
      ≡ Some
      (blocks_before times (passed_by times (get_or indexes (k + 1) 0)) + (k + 1), IndexOrder)
  pub none : IsStrictlyIncreasing indexes → length indexes < 2
      → first_fault (stream_of_capture times indexes)
      ≡ Some (blocks_before times (length times) + length indexes + 1, NoTurn)
