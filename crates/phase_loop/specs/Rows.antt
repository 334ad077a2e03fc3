-- The rule by which the times of transitions become counts of cells (this project's own rule).
-- Times are in ticks; places, periods and fine times in fine units, of which 1024 make a tick.
-- Transitions are numbered from 0.
use Rattle.std.specs.Prelude.{ℕ, zero, suc, ◌+◌, ◌-◌, ◌*◌, ◌/◌, max, List, [], ◌∷◌, ◌++◌, map}
use Rattle.std.specs.Prelude.{length, drop, slice_index, slice_index_or, if◌then◌else◌, nat_lt}
use Rattle.std.specs.Prelude.{Bool, true}
use Rattle.std.specs.List.{sum_by, flat_map}
use Rattle.cell_bits.specs.Run.{run_cells}
use Rattle.phase_loop.specs.Start.{FINE_PER_TICK, INTERVALS, LONGEST, in_band}
use Rattle.phase_loop.specs.declared.start.LoopStart.{LoopStart}

-- what the rule gives for one transition
pub record Row : Type 0 where
  -- its time
  pub fine : ℕ
  -- the place where the loop expects the clock to stand
  pub place : ℕ
  -- the length of a cell
  pub period : ℕ
  -- the cells since the transition before; 0 for the first
  pub count : ℕ
  -- the number of the last transition at which the loop started anew
  pub restart : ℕ

-- the row of a transition at which the loop starts
abbrev pub row_of_start : LoopStart → (number fine count : ℕ) → Row
row_of_start start number fine count = record {
  fine = fine;
  place = fine;
  period = start.first;
  count = count;
  restart = number;
}

-- stands for the row that an empty list does not have
abbrev pub no_row : Row
no_row = record { fine = 0; place = 0; period = 0; count = 0; restart = 0 }

-- the row of one transition
abbrev pub row_at : List Row → ℕ → Row
row_at rows number = slice_index_or rows number no_row

-- the last of the rows
abbrev pub last_row : List Row → Row
last_row rows = row_at rows (length rows - 1)

-- How many periods a time lies after the place, to the nearest, and at least one. For a time before
-- the place the exact quotient is below a half, and the one with the cut-off difference is a half:
-- both floors are below one, so that both give one.
abbrev pub periods_since : Row → ℕ → ℕ
periods_since before fine =
    max 1 ((2 * (fine - before.place) + before.period) / (2 * before.period))

-- The period after the transition that follows these rows: the mean of its last 64 intervals, taken
-- from two times and kept in the start's band, once 64 intervals have passed since the restart;
-- before that the first period.
abbrev pub period_behind : LoopStart → List Row → (restart fine count : ℕ) → ℕ
period_behind start rows restart fine count =
    let number = length rows in
    if nat_lt (number - restart) INTERVALS then start.first
    else in_band start.band
    ((fine - (row_at rows (number - INTERVALS)).fine)
    / (sum_by (λ row. row.count) (drop (number - (INTERVALS - 1)) rows) + count))

-- The row of the transition that follows these rows, where it lies this many periods after the
-- place. Past 32 the loop starts anew.
abbrev pub row_at_distance : LoopStart → List Row → Row → (fine periods : ℕ) → Row
row_at_distance start rows before fine periods =
    if nat_lt LONGEST periods then row_of_start start (length rows) fine LONGEST
    else record {
      fine = fine;
      place = (before.place + periods * before.period + fine) / 2;
      period = period_behind start rows before.restart fine periods;
      count = periods;
      restart = before.restart;
    }

-- the row of the transition that follows these rows
unfoldable pub next_row : LoopStart → List Row → ℕ → Row
next_row start rows fine =
    row_at_distance start rows (last_row rows) fine (periods_since (last_row rows) fine)

abbrev pub with_next_row : LoopStart → List Row → ℕ → List Row
with_next_row start rows fine = rows ++ next_row start rows fine ∷ []

-- the rows of the transitions from number 0 to this one
unfoldable pub rows_to : LoopStart → List ℕ → ℕ → List Row
rows_to start times zero = row_of_start start 0 (FINE_PER_TICK * slice_index times 0) 0 ∷ []
rows_to start times (suc number) =
    with_next_row start (rows_to start times number)
    (FINE_PER_TICK * slice_index times (suc number))

-- the rows of all transitions, of which there is at least one
abbrev pub rows_of : LoopStart → List ℕ → List Row
rows_of start times = rows_to start times (length times - 1)

-- the counts from each transition to the next
abbrev pub counts : LoopStart → List ℕ → List ℕ
counts start times = map (λ row. row.count) (drop 1 (rows_of start times))

-- the recovered cells: a one for the first transition, then the run of each count
unfoldable pub recovered : LoopStart → List ℕ → List Bool
recovered start [] = []
recovered start (time ∷ times) = true ∷ flat_map run_cells (counts start (time ∷ times))
