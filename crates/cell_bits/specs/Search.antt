-- The first place of a stretch where a word stands whole, and the first whose cell is a one.
use Rattle.std.specs.Prelude.{◌≡◌, ℕ, ◌<◌, ◌≤◌, Bool, true, false, List, get_or, Option, Some, None}
use Rattle.cell_bits.specs.Word.{Stands}

-- the word stands whole at no place from `from` to below `to`
abbrev pub StandsNowhere : List Bool → ℕ → ℕ → ℕ → ℕ → Type 0
StandsNowhere cells value count from to =
    (place : ℕ) → from ≤ place → place < to → ¬ Stands cells value count place

-- the least place from `from` to below `to` where the word stands whole, or
-- none exactly where there is none
abbrev pub IsFirstWord : List Bool → ℕ → ℕ → ℕ → ℕ → Option ℕ → Type 0
IsFirstWord cells value count from to None = StandsNowhere cells value count from to
IsFirstWord cells value count from to (Some place) =
    (from ≤ place) × (place < to) × Stands cells value count place
    × StandsNowhere cells value count from place

-- no cell from `from` to below `to` is a one
abbrev pub HasNoOne : List Bool → ℕ → ℕ → Type 0
HasNoOne cells from to = (place : ℕ) → from ≤ place → place < to → get_or cells place false ≡ false

-- the least place from `from` to below `to` whose cell is a one, or
-- none exactly where there is none
abbrev pub IsFirstOne : List Bool → ℕ → ℕ → Option ℕ → Type 0
IsFirstOne cells from to None = HasNoOne cells from to
IsFirstOne cells from to (Some place) =
    (from ≤ place) × (place < to) × (get_or cells place false ≡ true) × HasNoOne cells from place
