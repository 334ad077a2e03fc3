-- The hole that a trial leaves in each turn of a track: so many cells of the ring, in which no
-- transition is seen (our own choice).
use Rattle.std.specs.Prelude.{ℕ, ◌+◌, ◌-◌, ◌*◌, ◌/◌, ◌%◌, Bool, nat_eq}
use Rattle.std.specs.List.{list_any, range_with_len}

-- how many cells the hole of a seed has; a seed below 1000 has none
abbrev pub hole_cells : (seed : ℕ) → ℕ
hole_cells seed = seed / 1000 % 1000

-- the cell from which on the hole lies in the repeated ring
abbrev pub hole_begin : (seed : ℕ) → ℕ
hole_begin seed = 16 * (seed / 1000000)

-- the cell of a ring of so many cells that is written as cell number K: the
-- last quarter is written first
abbrev pub ring_cell : (cells K : ℕ) → ℕ
ring_cell cells K = (K + cells - cells / 4) % cells

-- the ring's cell lies in the hole
abbrev pub is_lost : (cells seed cell : ℕ) → Bool
is_lost cells seed cell =
    list_any (λ i. nat_eq cell ((hole_begin seed + i) % cells)) (range_with_len 0 (hole_cells seed))
