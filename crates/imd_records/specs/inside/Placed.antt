-- Where a number has its place among rows that are in order.
use Rattle.std.specs.Prelude.{◌<◌, ◌≤◌, ℕ, Contains, List, get_or, length}
use Rattle.name_book.specs.Book.{NamesKnown}
use Rattle.imd_records.specs.Choices.{LiesBefore}

-- all rows are numbers below this one
abbrev pub AreBelow : (number : ℕ) → (rows : List ℕ) → Type 0
AreBelow number rows = (row : ℕ) → Contains rows row → row < number

-- so many rows lie before it, and it lies before all others
pub record IsPlaceOf (known : NamesKnown) (rows : List ℕ) (number place : ℕ) : Type 0 where
  pub within : place ≤ length rows
  pub before : (k : ℕ) → k < place → LiesBefore known (get_or rows k 0) number
  pub behind : (k : ℕ) → place ≤ k → k < length rows → LiesBefore known number (get_or rows k 0)
