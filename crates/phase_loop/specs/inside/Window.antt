-- The window of the last intervals.
use Rattle.std.specs.Prelude.{◌≡◌, ◌≤◌, ◌+◌, ◌*◌, ℕ, List, length}
use Rattle.std.specs.List.{All, sum_by}
use Rattle.circular_buffer.specs.Buffer.{Buffer}
use Rattle.phase_loop.specs.Start.{INTERVALS, LONGEST, LONGEST_PERIOD}
use Rattle.phase_loop.specs.declared.window.Interval.{Interval}

abbrev pub fine_total : List Interval → ℕ
fine_total intervals = sum_by (λ interval. interval.fine) intervals

abbrev pub count_total : List Interval → ℕ
count_total intervals = sum_by (λ interval. interval.count) intervals

-- The longest interval at which the loop does not start anew: up to 32 and a half periods after the
-- place, which is up to one period ahead of the transition before.
abbrev pub WIDEST : ℕ
WIDEST = (LONGEST + 2) * LONGEST_PERIOD

-- an interval at which the loop did not start anew
pub record IsShort (interval : Interval) : Type 0 where
  pub fine : interval.fine ≤ WIDEST
  pub some : 1 ≤ interval.count
  pub most : interval.count ≤ LONGEST

-- at most 64 short intervals, and their totals
pub record IsWindow (ring : Buffer Interval) (fine count : ℕ) : Type 0 where
  pub room : ring.capacity ≡ INTERVALS
  pub within : length ring.items ≤ INTERVALS
  pub short : All IsShort ring.items
  pub fine_is : fine ≡ fine_total ring.items
  pub count_is : count ≡ count_total ring.items
