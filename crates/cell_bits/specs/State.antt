-- What a list of bit cells is to its callers.
use Rattle.std.specs.Prelude.{ℕ, ◌+◌, Bool, List, length}

-- the cells in order of time, and how many more can be appended without memory
pub record CellsState : Type 0 where
  pub cells : List Bool
  pub spare : ℕ

-- how many cells the list can hold without memory
abbrev pub room : CellsState → ℕ
room state = length state.cells + state.spare
