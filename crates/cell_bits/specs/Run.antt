-- A run of cells: the way from one flux transition to the next.
use Rattle.std.specs.Prelude.{ℕ, ◌≤◌, ◌-◌, Bool, true, false, List, [], ◌∷◌, ◌++◌, replicate}

-- no transition in all cells but the last
abbrev pub run_cells : ℕ → List Bool
run_cells count = replicate (count - 1) false ++ true ∷ []

-- a run of one to four cells: no recording has longer ones
abbrev pub IsShortRun : ℕ → Type 0
IsShortRun count = (1 ≤ count) × (count ≤ 4)

-- a run of one to 32 cells: the longest that clock recovery counts
abbrev pub IsRun : ℕ → Type 0
IsRun count = (1 ≤ count) × (count ≤ 32)
