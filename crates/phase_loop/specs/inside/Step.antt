-- One step of a loop, from what it holds.
use Rattle.std.specs.Prelude.{ℕ, ◌+◌, ◌-◌, ◌*◌, ◌/◌, min, max, List, [], ◌∷◌, ◌++◌, length}
use Rattle.std.specs.Prelude.{if◌then◌else◌, nat_lt}
use Rattle.circular_buffer.specs.Buffer.{keep_last}
use Rattle.phase_loop.specs.Start.{INTERVALS, LONGEST, in_band}
use Rattle.phase_loop.specs.inside.Window.{fine_total, count_total}
use Rattle.phase_loop.specs.State.{LoopState}
use Rattle.phase_loop.specs.declared.window.Interval.{Interval}

-- how many periods the time lies after the place
abbrev pub periods_to : LoopState → ℕ → ℕ
periods_to state fine = max 1 ((2 * (fine - state.place) + state.period) / (2 * state.period))

-- the state where the loop starts anew
abbrev pub restarted : LoopState → ℕ → LoopState
restarted state fine = record {
  first = state.first;
  band = state.band;
  fine = fine;
  place = fine;
  period = state.first;
  recent = [];
}

-- the last intervals, and the one that ends at the time
abbrev pub recent_after : LoopState → (fine periods : ℕ) → List Interval
recent_after state fine periods =
    keep_last INTERVALS (state.recent ++ record { fine = fine - state.fine; count = periods } ∷ [])

-- the period that these intervals give
abbrev pub period_from : LoopState → List Interval → ℕ
period_from state recent =
    if nat_lt (length recent) INTERVALS then state.first
    else in_band state.band (fine_total recent / count_total recent)

-- the state where the interval joins the others
abbrev pub joined : LoopState → (fine periods : ℕ) → LoopState
joined state fine periods = record {
  first = state.first;
  band = state.band;
  fine = fine;
  place = (state.place + periods * state.period + fine) / 2;
  period = period_from state (recent_after state fine periods);
  recent = recent_after state fine periods;
}

-- the state after a transition at the time, and its count
abbrev pub state_after : LoopState → ℕ → LoopState
state_after state fine =
    if nat_lt LONGEST (periods_to state fine) then restarted state fine
    else joined state fine (periods_to state fine)

abbrev pub count_after : LoopState → ℕ → ℕ
count_after state fine = min LONGEST (periods_to state fine)
