-- What a loop holds of the rule after one transition.
use Rattle.std.specs.Prelude.{◌≡◌, ◌<◌, ℕ, ◌-◌, List, [], ◌∷◌, length, drop}
use Rattle.std.specs.List.Sorted.{IsNonDecreasing}
use Rattle.circular_buffer.specs.Buffer.{keep_last}
use Rattle.phase_loop.specs.Start.{INTERVALS}
use Rattle.phase_loop.specs.Rows.{Row, last_row, rows_of}
use Rattle.phase_loop.specs.declared.start.Band.{Band}
use Rattle.phase_loop.specs.declared.start.LoopStart.{LoopStart}
use Rattle.phase_loop.specs.declared.window.Interval.{Interval}

-- the first period and the band, the last transition's fine time and place, the period, and the
-- last intervals since the restart, at most 64
pub record LoopState : Type 0 where
  pub first : ℕ
  pub band : Band
  pub fine : ℕ
  pub place : ℕ
  pub period : ℕ
  pub recent : List Interval

-- from one transition to the next
abbrev pub interval_between : Row → Row → Interval
interval_between before row = record { fine = row.fine - before.fine; count = row.count }

-- the intervals after a row
abbrev pub intervals_behind : Row → List Row → List Interval
intervals_behind before [] = []
intervals_behind before (row ∷ rows) = interval_between before row ∷ intervals_behind row rows

-- the intervals from each transition to the next
abbrev pub intervals : List Row → List Interval
intervals [] = []
intervals (row ∷ rows) = intervals_behind row rows

-- what a loop holds after the last of these rows
unfoldable pub state_behind : LoopStart → List Row → LoopState
state_behind start rows = let last = last_row rows in record {
  first = start.first;
  band = start.band;
  fine = last.fine;
  place = last.place;
  period = last.period;
  recent = keep_last INTERVALS (drop last.restart (intervals rows));
}

-- the state is what the rule gives at the last of these times, of which there is one at least, and
-- which never fall from one to the next
pub record Holds (state : LoopState) (start : LoopStart) (times : List ℕ) : Type 0 where
  pub some : 0 < length times
  pub rising : IsNonDecreasing times
  pub values : state ≡ state_behind start (rows_of start times)
