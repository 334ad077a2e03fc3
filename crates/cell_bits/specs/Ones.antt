-- How many cells are ones.
use Rattle.std.specs.Prelude.{ℕ, ◌-◌, Bool, List, take, drop, count_by}

abbrev pub ones : List Bool → ℕ
ones cells = count_by (λ cell. cell) cells

-- the ones at places from `from` to below `to`
abbrev pub ones_from_to : List Bool → ℕ → ℕ → ℕ
ones_from_to cells from to = ones (take (to - from) (drop from cells))
