-- Which of two rates data are of that have the same cell: mfm-hd has 200000 cells in a turn,
-- mfm-hd360 has 166656. The middle is 183328.
use Rattle.std.specs.Prelude.{ℕ, ◌+◌, ◌-◌, ◌*◌, Bool, true, List, nat_le, not}
use Rattle.flux_engine.specs.Tracks.{time_of_place}
use Rattle.ibm_disks.specs.declared.rate.Rate.{Rate}
use Rattle.ibm_disks.specs.declared.rate.Rate.TheVariants.{High, HighAt360}
use Rattle.index_turns.specs.Track.{turn_length}

-- the time between two places of the cells, in ticks
abbrev pub time_between : (times : List ℕ) → (cells : List Bool) → (from to : ℕ) → ℕ
time_between times cells from to =
    time_of_place times cells to - time_of_place times cells from

-- as many cells as stand from a header to its data come in the first turn to 183328 or more in
-- proportion to the time
abbrev pub is_high : (times indexes : List ℕ) → (cells : List Bool) → (place behind : ℕ) → Bool
is_high times indexes cells place behind =
    nat_le (183328 * time_between times cells place (place + behind))
    (behind * turn_length indexes 1)

-- each other rate has a cell of its own
abbrev pub is_of_rate : Rate → (times indexes : List ℕ) → (cells : List Bool) → (place behind : ℕ)
    → Bool
is_of_rate High times indexes cells place behind = is_high times indexes cells place behind
is_of_rate HighAt360 times indexes cells place behind =
    not (is_high times indexes cells place behind)
is_of_rate rate times indexes cells place behind = true
