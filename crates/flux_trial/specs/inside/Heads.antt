-- A drive's head that passes over a track's transitions, one after another.
use Rattle.std.specs.Prelude.{◌≡◌, ◌≤◌, ◌<◌, ℕ, ◌+◌, ◌-◌, ◌*◌, ◌/◌, ◌%◌, All, Bool, cond, List, []}
use Rattle.std.specs.Prelude.{◌∷◌, ◌++◌, length, nat_eq}
use Rattle.std.specs.List.{list_any, range_with_len}
use Rattle.track_rings.specs.Rings.{last_in}
use Rattle.flux_trial.specs.Drive.{Drive, base, chance, displaced, drifted, ideal, most_drift}
use Rattle.flux_trial.specs.Drive.{most_way, period}
use Rattle.flux_trial.specs.Hole.{hole_begin, hole_cells, ring_cell}
use Rattle.flux_trial.specs.declared.head.Head.{Head}
use Rattle.flux_trial.specs.declared.hole.Hole.{Hole}

-- the head has these numbers after the transitions at the ends of these cells
pub record IsAt (d : Drive) (ones : List ℕ) (head : Head) : Type 0 where
  pub some : 0 < length ones
  pub base_is : head.base ≡ base d
  pub drift_is : head.most_drift ≡ most_drift d
  pub way_is : head.most_way ≡ most_way d
  pub chance_is : head.chance ≡ chance d (length ones)
  pub period_is : head.period ≡ period d (length ones - 1)
  pub cell_is : head.cell ≡ last_in ones
  pub ideal_is : head.ideal ≡ ideal d ones (length ones - 1)

-- the most cells of which the head counts the numbers
abbrev pub MOST_CELLS : ℕ
MOST_CELLS = 1048576

-- the longest cell, in fine units
abbrev pub LONGEST_CELL : ℕ
LONGEST_CELL = 147456

-- the head's numbers keep to bounds: its periods are so long that
-- displaced transitions stay in order
pub record IsSound (head : Head) : Type 0 where
  pub chance : head.chance < 2147483648
  pub way : 2 * head.most_way + 1024 + head.most_drift ≤ head.base
  pub low : head.base ≤ head.period + head.most_drift
  pub high : head.period ≤ head.base + head.most_drift
  pub longest : head.base + head.most_drift ≤ LONGEST_CELL
  pub few : head.cell < MOST_CELLS
  pub far : head.ideal ≤ (head.cell + 1) * LONGEST_CELL
  pub near : head.most_way ≤ head.ideal

-- the next number of chance
abbrev pub next_chance : ℕ → ℕ
next_chance chance = (1103515245 * chance + 12345) % 2147483648

-- the head after the first transition, at the end of the cell with this number
abbrev pub started : Drive → ℕ → Head
started d cell = record {
  base = base d;
  most_drift = most_drift d;
  most_way = most_way d;
  chance = next_chance ((d.seed + 7919 * d.track) % 2147483648);
  period = base d;
  cell = cell;
  ideal = (cell + 1) * base d;
}

-- the head after one more transition, at the end of the cell with this number
abbrev pub passed : Head → ℕ → Head
passed head cell = record {
  base = head.base;
  most_drift = head.most_drift;
  most_way = head.most_way;
  chance = next_chance head.chance;
  period = drifted head.base head.most_drift head.period head.chance;
  cell = cell;
  ideal = head.ideal + (cell - head.cell) * head.period;
}

-- the time of the last transition
abbrev pub time_at : Head → ℕ
time_at head = displaced head.most_way head.ideal head.chance

-- the ideal place of the end of a cell, counted from the last transition before it
abbrev pub reach : Head → ℕ → ℕ
reach head cell = head.ideal + (cell - head.cell) * head.period

-- the head after the transitions at these cells
abbrev pub passed_all : Head → List ℕ → Head
passed_all head [] = head
passed_all head (cell ∷ cells) = passed_all (passed head cell) cells

-- a ring's cell lies in the hole
abbrev pub in_hole : Hole → ℕ → Bool
in_hole hole cell =
    list_any (λ i. nat_eq cell ((hole.begin + i) % hole.ring)) (range_with_len 0 hole.count)

-- the hole of a seed in a ring of so many cells, which are more than those of any hole
pub record IsHole (seed cells : ℕ) (hole : Hole) : Type 0 where
  pub ring_is : hole.ring ≡ cells
  pub begin_is : hole.begin ≡ hole_begin seed % cells
  pub count_is : hole.count ≡ hole_cells seed

-- the hole is shorter than its ring, and begins in it
pub record FitsRing (hole : Hole) : Type 0 where
  pub begins : hole.begin < hole.ring
  pub fits : hole.count ≤ hole.ring

-- the time of a transition at a ring's cell, if it is seen
abbrev pub seen_time : Hole → (cell : ℕ) → Head → List ℕ
seen_time hole cell head = cond (in_hole hole cell) [] (time_at head ∷ [])

-- the times of the transitions at these cells that are seen
abbrev pub seen_times : Hole → Head → List ℕ → List ℕ
seen_times hole head [] = []
seen_times hole head (cell ∷ cells) =
    seen_time hole (ring_cell hole.ring cell) (passed head cell)
    ++ seen_times hole (passed head cell) cells

-- the cell of a ring at this place is written as the cell with this number
abbrev pub OnRing : (ring place number : ℕ) → Type 0
OnRing ring place number = (turns : ℕ) × (number + ring - ring / 4 ≡ place + turns * ring)

-- no time lies after what a transition at the head's place may have
abbrev pub AreBefore : Head → List ℕ → Type 0
AreBefore head times = All (λ time. 1024 * time ≤ head.ideal + head.most_way) times
