-- What contracts see of the transitions and index moments of one captured track.
use Rattle.std.specs.Prelude.{ℕ, ◌+◌, ◌-◌, ◌≤◌, List, [], ◌∷◌, length, count_by, nat_le}
use Rattle.std.specs.Prelude.{slice_index}

-- the times of the transitions, the index times, both in ticks, and how many more of
-- each fit without taking memory
pub record TrackState : Type 0 where
  pub times : List ℕ
  pub indexes : List ℕ
  pub spare_times : ℕ
  pub spare_indexes : ℕ

-- how many times a track has room for, those that it holds among them
abbrev pub room_of_times : TrackState → ℕ
room_of_times t = length t.times + t.spare_times

-- how many index times a track has room for, those that it holds among them
abbrev pub room_of_indexes : TrackState → ℕ
room_of_indexes t = length t.indexes + t.spare_indexes

-- neither room is lower than it was
pub record KeepsRoom (old new : TrackState) : Type 0 where
  pub times : room_of_times old ≤ room_of_times new
  pub indexes : room_of_indexes old ≤ room_of_indexes new

-- the times of transitions that follow one another at these intervals, the first
-- of them so long after `start`
abbrev pub times_after : ℕ → List ℕ → List ℕ
times_after start [] = []
times_after start (interval ∷ intervals) =
    (start + interval) ∷ times_after (start + interval) intervals

-- the turn in which a time lies: how many index times are at or before it
abbrev pub turn_at : List ℕ → ℕ → ℕ
turn_at indexes time = count_by (λ index. nat_le index time) indexes

-- the length of a turn: turn 1 lies between the first two index times
abbrev pub turn_length : List ℕ → ℕ → ℕ
turn_length indexes turn = slice_index indexes turn - slice_index indexes (turn - 1)
