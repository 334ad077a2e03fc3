-- Whether what stands in a list of cells is one of the ring's own sectors.
use Rattle.std.specs.Prelude.{◌≡◌, ℕ, ◌+◌, ◌%◌, ◌<◌, ◌≤◌, Bool, false, List, ◌++◌, length, take}
use Rattle.std.specs.Prelude.{drop, replicate}
use Rattle.track_rings.specs.Rings.{stretch}

-- no `zeros` zeros in a row lie at places from `from` to below `to`: unbroken
-- cells are those with no eight
abbrev pub NoZeros : ℕ → List Bool → ℕ → ℕ → Type 0
NoZeros zeros cells from to = (place : ℕ) → from ≤ place → place + zeros ≤ to
    → ¬ (take zeros (drop place cells) ≡ replicate zeros false)

-- What stands at the front of the cells depends on its own cells alone: there is an end such
-- that the cells up to it have no `zeros` zeros in a row, and that the same stands at the front
-- of all cells that begin with these.
pub record IsAloneWithin (zeros : ℕ) (Here : List Bool → Type 0) (cells : List Bool) : Type 0 where
  pub end : ℕ
  pub some : 0 < end
  pub within : end ≤ length cells
  pub unbroken : NoZeros zeros cells 0 end
  pub alone : (more : List Bool) → Here (take end cells ++ more)

-- the same where the cells up to the end are unbroken
abbrev pub IsAlone : (List Bool → Type 0) → List Bool → Type 0
IsAlone Here cells = IsAloneWithin 8 Here cells

-- zeros, a stretch of the repeated ring, and zeros
abbrev pub between_zeros : List Bool → ℕ → ℕ → ℕ → ℕ → List Bool
between_zeros ring zeros from count behind =
    replicate zeros false ++ (stretch ring from count ++ replicate behind false)

-- A place of such cells lies where place `begin` of the ring does, as far as the stretch goes. It
-- may lie before the stretch, where a sync that begins with zeros has them there.
abbrev pub IsOwnPlace : ℕ → ℕ → ℕ → ℕ → ℕ → Type 0
IsOwnPlace ring_cells begin zeros from place =
    (from + place) % ring_cells ≡ (begin + zeros) % ring_cells
