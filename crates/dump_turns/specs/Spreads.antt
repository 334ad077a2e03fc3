-- How far the files' mean revolutions lie apart.
use Rattle.std.specs.Prelude.{◌≡◌, ◌<◌, ℕ, ◌*◌, ◌/◌, ◌-◌, ◌^◌, Bool, List, [], length, nat_lt}
use Rattle.std.specs.Prelude.{slice_get}
use Rattle.std.specs.Prelude.{IsPermutation, Option, Some, None}
use Rattle.std.specs.Int.{abs_diff}
use Rattle.std.specs.List.Sorted.{IsNonDecreasing}
use Rattle.dump_turns.specs.declared.spread.Spread.{Spread}

-- of some numbers in order, the first, the one in the middle (of two the later), and the last
pub record IsSpread (means : List ℕ) (spread : Spread) : Type 0 where
  pub sorted : List ℕ
  pub same : IsPermutation means sorted
  pub order : IsNonDecreasing sorted
  pub least : slice_get sorted 0 ≡ Some spread.least
  pub median : slice_get sorted (length means / 2) ≡ Some spread.median
  pub greatest : slice_get sorted (length means - 1) ≡ Some spread.greatest

-- what a stream's limit makes of means
pub record IsBoundedSpread (spread : Spread) : Type 0 where
  pub some : 0 < spread.median
  pub few : spread.median < 2 ^ 39

-- there is none of no numbers
abbrev pub IsSpreadOf : List ℕ → Option Spread → Type 0
IsSpreadOf means None = means ≡ []
IsSpreadOf means (Some spread) = IsSpread means spread

-- a mean is more than 5 in 1000 from the median
abbrev pub is_uneven : (mean median : ℕ) → Bool
is_uneven mean median = nat_lt (5 * median) (1000 * abs_diff mean median)
