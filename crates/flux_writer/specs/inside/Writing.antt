-- One step of writing a stream.
use Rattle.std.specs.Prelude.{◌≡◌, ℕ, ◌<◌, ◌≤◌, ◌^◌, ◌+◌, ◌-◌, ◌*◌, ◌/◌, ◌++◌, All, Bool}
use Rattle.std.specs.Prelude.{List, [], ◌∷◌, length, take, drop, map, get_or, nat_lt, Option}
use Rattle.std.specs.List.{prefix_len}
use Rattle.std.specs.List.Sorted.{IsStrictlyIncreasing}
use Rattle.kryo_stream.specs.declared.block.Block.{Block}
use Rattle.kryo_stream.specs.declared.block.Block.TheVariants.{StreamEnd, End}
use Rattle.flux_writer.specs.declared.indexes.IndexUnit.{IndexUnit}
use Rattle.flux_writer.specs.declared.indexes.IndexUnit.TheVariants.{Ticks, Cells}
use Rattle.kryo_stream.specs.Protocol.{OVERFLOW_TICKS}
use Rattle.kryo_stream.specs.Sequence.{spellings}
use Rattle.flux_writer.specs.Written.{cell_time, index_block, interval_blocks, track_cells}
use Rattle.flux_writer.specs.inside.Gathering.{Gathers}
use Rattle.flux_writer.specs.lemmas.FoundOnes.{ones_between, ones_from}

-- the time in ticks of an index that is given in this unit
abbrev pub ticks_of : IndexUnit → ℕ → ℕ
ticks_of Ticks place = place
ticks_of (Cells nominal) place = cell_time nominal place

-- cells are few enough that their times can be counted
abbrev pub AreCounted : IndexUnit → List ℕ → Type 0
AreCounted Ticks places = Unit {0}
AreCounted (Cells nominal) places = All (λ place. place < 2 ^ 32) places

-- how many index times at the front lie before a time, which they are, and those after them
abbrev pub count_before : ℕ → List ℕ → ℕ
count_before time indexes = prefix_len (λ index. nat_lt index time) indexes

abbrev pub indexes_before : ℕ → List ℕ → List ℕ
indexes_before time indexes = take (count_before time indexes) indexes

abbrev pub indexes_from : ℕ → List ℕ → List ℕ
indexes_from time indexes = drop (count_before time indexes) indexes

-- the first index time, or the greatest number of 64 bits where there is none
abbrev pub first_or_never : List ℕ → ℕ
first_or_never indexes = get_or indexes 0 18446744073709551615

-- the stream position after an interval
abbrev pub next_position : ℕ → ℕ → ℕ → ℕ
next_position position begin time = position + length (spellings (interval_blocks (time - begin)))

-- the blocks of the next transition, where its interval begins at this stream position and time
abbrev pub next_blocks : ℕ → ℕ → ℕ → List ℕ → List Block
next_blocks position begin time indexes =
    map (index_block position begin) (indexes_before time indexes) ++ interval_blocks (time - begin)

-- the blocks after the last interval
abbrev pub last_blocks : ℕ → List Block
last_blocks position = StreamEnd position 0 ∷ End ∷ []

-- the stream position, the time and the index times that are left, after several transitions
abbrev pub position_after : ℕ → ℕ → List ℕ → ℕ
position_after position begin [] = position
position_after position begin (time ∷ times) =
    position_after (next_position position begin time) time times

abbrev pub time_after : ℕ → List ℕ → ℕ
time_after begin [] = begin
time_after begin (time ∷ times) = time_after time times

abbrev pub indexes_after : List ℕ → List ℕ → List ℕ
indexes_after [] indexes = indexes
indexes_after (time ∷ times) indexes = indexes_after times (indexes_from time indexes)

-- the blocks of several transitions in order
abbrev pub many_blocks : ℕ → ℕ → List ℕ → List ℕ → List Block
many_blocks position begin [] indexes = []
many_blocks position begin (time ∷ times) indexes =
    next_blocks position begin time indexes
    ++ many_blocks (next_position position begin time) time times (indexes_from time indexes)

-- the times of the transitions of the cells from one place to below another, where the
-- first of them has this number
abbrev pub times_between : List Bool → ℕ → ℕ → ℕ → ℕ → List ℕ
times_between cells from to number nominal =
    map (cell_time nominal) (ones_between cells from to number)

-- the times of the transitions of a ring's cells that are written
abbrev pub track_times : List Bool → ℕ → List ℕ
track_times ring nominal = map (cell_time nominal) (ones_from 0 (track_cells ring))

-- a writer is at a time, up to which it wrote so many transitions or cells;
-- no index time before it is left
pub record IsReady (position time count : ℕ) (indexes : List ℕ) : Type 0 where
  pub room : position ≤ time / OVERFLOW_TICKS + 3 * count
  pub begun : All (λ index. time ≤ index) indexes
  pub rising : IsStrictlyIncreasing indexes

-- a writer is about to write the cell with this number
pub record IsReadyAt (nominal position time number : ℕ) (indexes : List ℕ) : Type 0 where
  pub ready : IsReady position time number indexes
  pub reached : time ≤ cell_time nominal number

-- A writer that held these bytes, at this stream position and time, with these index times left,
-- wrote the transitions at `times`: what the sink took and what is held now are their blocks, and
-- position, time and index times left are those after them.
pub record IsWritten (old new : Option (List ℕ)) (held : List ℕ) (position time : ℕ)
    (indexes held' : List ℕ) (position' time' : ℕ)
    (indexes' times : List ℕ) : Type 0 where
  pub bytes : Gathers old new held held' (spellings (many_blocks position time times indexes))
  pub position_is : position' ≡ position_after position time times
  pub time_is : time' ≡ time_after time times
  pub indexes_are : indexes' ≡ indexes_after times indexes
