-- Words at places of cells, and items in a row that take as many cells each.
use Rattle.std.specs.Prelude.{ℕ, ◌+◌, ◌*◌, ◌<◌, Bool, List, length, get_or}

-- The first `count` of some items stand in a row from a place on: each takes `size` cells.
abbrev pub StandInRow : {X : Type 0} → ℕ → (List Bool → ℕ → X → Type 0) → List Bool → ℕ → ℕ
    → (ℕ → X) → Type 0
StandInRow size At cells place count item =
    (k : ℕ) → k < count → At cells (place + size * k) (item k)

-- all items of a list do
abbrev pub ListStands : ℕ → (List Bool → ℕ → ℕ → Type 0) → List Bool → ℕ → List ℕ → Type 0
ListStands size At cells place items =
    StandInRow size At cells place (length items) (λ k. get_or items k 0)
