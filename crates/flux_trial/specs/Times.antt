-- What a trial's drive gives of a ring: the times of the transitions, and the index times.
use Rattle.std.specs.Prelude.{ℕ, ◌≤◌, Bool, not, List, filter, length, map, slice_index}
use Rattle.std.specs.List.{range_with_len}
use Rattle.flux_writer.specs.Written.{ones_of, track_cells, track_turns}
use Rattle.track_rings.specs.Rings.{IsSpaced}
use Rattle.flux_trial.specs.Drive.{Drive, index_time, time_of}
use Rattle.flux_trial.specs.Hole.{is_lost, ring_cell}

-- a ring that a trial's drive turns over: its neighbouring ones, read cyclically, are one to four
-- cells apart, and it has not few cells and not very many
pub record IsTrialRing (ring : List Bool) : Type 0 where
  pub spaced : IsSpaced 1 4 ring
  pub least : 32768 ≤ length ring
  pub most : length ring ≤ 262144

-- transition number j is seen: its cell of the ring does not lie in the hole
abbrev pub is_seen : Drive → (cells : ℕ) → List ℕ → ℕ → Bool
is_seen d cells ones j = not (is_lost cells d.seed (ring_cell cells (slice_index ones j)))

-- the times of the transitions that are seen
abbrev pub times_seen : Drive → (cells : ℕ) → List ℕ → List ℕ
times_seen d cells ones =
    map (time_of d ones) (filter (is_seen d cells ones) (range_with_len 0 (length ones)))

-- the times of a ring's transitions: the ring's last quarter, three turns, and its first
-- quarter pass, as they are written
unfoldable pub trial_times : Drive → List Bool → List ℕ
trial_times d ring = times_seen d (length ring) (ones_of (track_cells ring))

-- the index times: where the turns begin, and where the last one ends
unfoldable pub trial_indexes : Drive → List Bool → List ℕ
trial_indexes d ring = map (index_time d (ones_of (track_cells ring))) (track_turns ring)
