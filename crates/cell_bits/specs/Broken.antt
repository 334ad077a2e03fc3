-- Cells without an erased stretch.
use Rattle.std.specs.Prelude.{◌≡◌, ℕ, ◌+◌, ◌≤◌, Bool, false, List, take, drop, replicate}

-- no eight zeros in a row lie at places from `from` to below `to`
abbrev pub Unbroken : List Bool → ℕ → ℕ → Type 0
Unbroken cells from to =
    (place : ℕ) → from ≤ place → place + 8 ≤ to → ¬ (take 8 (drop place cells) ≡ replicate 8 false)
