-- A stretch of transitions that a loop with a full window takes while
-- its numbers stand in registers.
use Rattle.std.specs.Prelude.{◌≡◌, ℕ, ◌+◌, ◌-◌, ◌*◌, ◌/◌, ◌<◌, ◌≤◌, List, [], ◌∷◌, ◌++◌, All, map}
use Rattle.std.specs.Prelude.{flat_map, length, take, drop, slice_index}
use Rattle.circular_buffer.specs.Buffer.{buffer}
use Rattle.cell_bits.specs.State.{CellsState, room}
use Rattle.cell_bits.specs.Run.{run_cells, IsRun}
use Rattle.phase_loop.specs.Start.{FINE_PER_TICK, INTERVALS, LONGEST, SHORTEST_PERIOD}
use Rattle.phase_loop.specs.Start.{LONGEST_PERIOD, in_band}
use Rattle.phase_loop.specs.inside.Window.{IsWindow}
use Rattle.phase_loop.specs.State.{LoopState}
use Rattle.phase_loop.specs.inside.Appended.{IsAppended}
use Rattle.phase_loop.specs.declared.start.Band.{Band}
use Rattle.phase_loop.specs.declared.start.LoopStart.{LoopStart}
use Rattle.phase_loop.specs.declared.window.Interval.{Interval}
use Rattle.phase_loop.specs.declared.phase.stretch.Stand.{Stand}

-- from a transition to the next, with this count
abbrev pub interval_at : List ℕ → (number count : ℕ) → Interval
interval_at times number count = record {
  fine = FINE_PER_TICK * slice_index times (number + 1) - FINE_PER_TICK * slice_index times number;
  count = count;
}

-- the intervals from one transition to the next, from this number on, with these counts
abbrev pub intervals_with : List ℕ → ℕ → List ℕ → List Interval
intervals_with times number [] = []
intervals_with times number (count ∷ counts) =
    interval_at times number count ∷ intervals_with times (number + 1) counts

abbrev pub counts_of : List Interval → List ℕ
counts_of intervals = map (λ interval. interval.count) intervals

-- the intervals are the last 64 up to transition number `last`
pub record AreBetween (times : List ℕ) (last : ℕ) (intervals : List Interval) : Type 0 where
  pub enough : INTERVALS ≤ last
  pub are : intervals ≡ intervals_with times (last - INTERVALS) (counts_of intervals)

-- the stand at the next transition, at this time and with this count, where the
-- window has this total and mean
abbrev pub stand_next : Band → Stand → (fine count total mean : ℕ) → Stand
stand_next band stand fine count total mean = record {
  place = (stand.place + count * stand.period + fine) / 2;
  period = in_band band mean;
  count = total;
}

-- what a loop would hold at transition number `next`, with this stand
-- and these counts in its window
abbrev pub standing : List ℕ → ℕ → LoopState → Stand → List ℕ → LoopState
standing times next state stand counts = record {
  first = state.first;
  band = state.band;
  fine = FINE_PER_TICK * slice_index times next;
  place = stand.place;
  period = stand.period;
  recent = intervals_with times (next - INTERVALS) counts;
}

-- from one transition to a later one, what the loop and the cells stand for is carried on
abbrev pub Carries : List ℕ → (last next : ℕ) → (old new : LoopState) → (cells longer : CellsState)
    → Type 0
Carries times last next old new cells longer =
    (start : LoopStart) (before : CellsState) → IsAppended start times last old before cells
    → IsAppended start times next new before longer

-- after the counts of the window stand those of so many transitions, all of 1 to 32
abbrev pub AreGuessed : (most : ℕ) → List ℕ → Type 0
AreGuessed most counts = All IsRun (take most (drop INTERVALS counts))

-- the cells with some runs after them
abbrev pub with_runs : CellsState → List ℕ → CellsState
with_runs cells counts =
    record { cells = cells.cells ++ flat_map run_cells counts; spare = cells.spare }

-- the stand at transition number `next` of a stretch behind number `last`, and
-- the counts of the window there
pub record IsStretch (times : List ℕ) (last next : ℕ) (state : LoopState) (stand : Stand)
    (counts : List ℕ) (cells longer : CellsState) : Type 0 where
  pub from : last ≤ next
  pub inside : next < length times
  pub enough : INTERVALS ≤ next
  pub full : length counts ≡ INTERVALS
  pub carries : Carries times last next state (standing times next state stand counts) cells longer
  pub window : IsWindow (buffer (intervals_with times (next - INTERVALS) counts) INTERVALS)
      (FINE_PER_TICK * slice_index times next
      - FINE_PER_TICK * slice_index times (next - INTERVALS)) stand.count
  pub place : stand.place ≤ FINE_PER_TICK * slice_index times next + LONGEST_PERIOD
  pub shortest : SHORTEST_PERIOD ≤ stand.period
  pub longest : stand.period ≤ LONGEST_PERIOD
  pub short : length longer.cells ≤ LONGEST * next + 1
  pub keeps : room cells ≤ room longer

-- the stand after so many transitions of a stretch, whatever cells the loop's are and
-- the stretch's runs stand after
abbrev pub TakesRuns : List ℕ → (last taken : ℕ) → LoopState → Stand → List ℕ → Type 0
TakesRuns times last taken state stand counts =
    (cells : CellsState) → length cells.cells ≤ LONGEST * last + 1
    → IsStretch times last (last + taken) state stand (drop taken (take (INTERVALS + taken) counts))
    cells (with_runs cells (take taken (drop INTERVALS counts)))
