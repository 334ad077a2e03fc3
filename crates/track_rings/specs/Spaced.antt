-- How far ones are apart in cells, and how many zeros stand last.
use Rattle.std.specs.Prelude.{◌≡◌, ℕ, zero, suc, ◌+◌, ◌≤◌, Bool, true, false, ◌&&◌, List, [], ◌∷◌}
use Rattle.std.specs.Prelude.{nat_le, nat_lt}

-- After a one and so many zeros, each one is `shortest` to `longest` cells after the one before it,
-- and fewer than `longest` zeros come in a row.
unfoldable pub is_spaced : ℕ → ℕ → ℕ → List Bool → Bool
is_spaced shortest longest seen [] = true
is_spaced shortest longest seen (true ∷ cells) =
    nat_le shortest (seen + 1) && is_spaced shortest longest 0 cells
is_spaced shortest longest seen (false ∷ cells) =
    nat_lt (seen + 1) longest && is_spaced shortest longest (seen + 1) cells

-- the zeros that stand last, after so many
unfoldable pub zeros_after : ℕ → List Bool → ℕ
zeros_after seen [] = seen
zeros_after seen (true ∷ cells) = zeros_after 0 cells
zeros_after seen (false ∷ cells) = zeros_after (seen + 1) cells

abbrev pub is_zero : ℕ → Bool
is_zero zero = true
is_zero (suc n) = false

-- What may be written after any zeros, of which at most `most` stand last: its ones are spaced also
-- with regard to the one before it, and at most so many zeros stand last again. It asks for the
-- cell before it, where the coding does.
abbrev pub MayFollow : ℕ → ℕ → ℕ → Bool → (Bool → List Bool) → Type 0
MayFollow shortest longest most asks cells = (seen : ℕ) → seen ≤ most
    → (is_spaced shortest longest seen (cells (asks && is_zero seen)) ≡ true)
    × (zeros_after seen (cells (asks && is_zero seen)) ≤ most)
