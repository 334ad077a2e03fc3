-- A word of cells: as on the disk, its high bit comes first.
use Rattle.std.specs.Prelude.{◌≡◌, ℕ, zero, suc, ◌+◌, ◌*◌, ◌/◌, ◌%◌, ◌^◌, Bool, ◌==◌, cond, List}
use Rattle.std.specs.Prelude.{[], ◌∷◌, length, take, drop}

-- the binary digit of a number that is worth 2 ^ place
abbrev pub digit : ℕ → ℕ → Bool
digit value place = value / 2 ^ place % 2 == 1

-- the low bits of a number as that many cells, high bit first
unfoldable pub word_cells : ℕ → ℕ → List Bool
word_cells zero value = []
word_cells (suc count) value = digit value count ∷ word_cells count value

-- cells as a number, high bit first
unfoldable pub number_of : List Bool → ℕ
number_of [] = 0
number_of (cell ∷ cells) = cond cell 1 0 * 2 ^ length cells + number_of cells

-- so many cells from a place on, as a number, high bit first
unfoldable pub word : List Bool → ℕ → ℕ → ℕ
word cells place count = number_of (take count (drop place cells))

-- the low `count` bits of the word stand whole at the place
abbrev pub Stands : List Bool → ℕ → ℕ → ℕ → Type 0
Stands cells value count place = take count (drop place cells) ≡ word_cells count value
