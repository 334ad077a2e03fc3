-- What a loop's fields stand for, and what holds of them.
use Rattle.std.specs.Prelude.{◌+◌, ◌^◌, ◌≤◌}
use Rattle.phase_loop.specs.Start.{SHORTEST_PERIOD, LONGEST_PERIOD, IsStart}
use Rattle.phase_loop.specs.State.{LoopState}
use Rattle.phase_loop.specs.declared.phase.Loop.TheInside.{Inside}

abbrev pub view_of : Inside → LoopState
view_of inside = record {
  first = inside.start.first;
  band = inside.start.band;
  fine = inside.fine;
  place = inside.place;
  period = inside.period;
  recent = inside.window;
}

-- the place is at most the longest period ahead of the last time
pub record IsLoop (inside : Inside) : Type 0 where
  pub start : IsStart inside.start
  pub fine : inside.fine ≤ 2 ^ 49
  pub place : inside.place ≤ inside.fine + LONGEST_PERIOD
  pub shortest : SHORTEST_PERIOD ≤ inside.period
  pub longest : inside.period ≤ LONGEST_PERIOD
