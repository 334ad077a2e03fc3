-- How far the loops over numbers and tracks have come.
use Rattle.std.specs.Prelude.{◌≡◌, ◌<◌, ◌≤◌, ℕ, ◌+◌, ◌/◌, ◌%◌, Bool, true, false, List, get_or, Option}
use Rattle.std.specs.Prelude.{Some, None}
use Rattle.told_disks.specs.declared.told.Reach.{Reach}
use Rattle.told_disks.specs.declared.told.Span.{Span}

-- the least and the greatest of the numbers below one that are marked, where one is
pub record IsSpanTo (marked : List Bool) (to : ℕ) (span : Span) : Type 0 where
  pub first : get_or marked span.first false ≡ true
  pub last : get_or marked span.last false ≡ true
  pub low : span.last < to
  pub within : (number : ℕ) → number < to → get_or marked number false ≡ true
      → (span.first ≤ number) × (number ≤ span.last)

abbrev pub IsSpanOrNone : (marked : List Bool) → (to : ℕ) → Option Span → Type 0
IsSpanOrNone marked to None = (number : ℕ) → number < to → get_or marked number false ≡ false
IsSpanOrNone marked to (Some span) = IsSpanTo marked to span

-- one more than the greatest cylinder and the greatest head of those tracks below one that are met,
-- where one is
pub record IsReachTo (Met : ℕ → Type 0) (to : ℕ) (reach : Reach) : Type 0 where
  pub cylinder : (track : ℕ) × Met track × (track / 2 + 1 ≡ reach.cylinders)
  pub head : (track : ℕ) × Met track × (track % 2 + 1 ≡ reach.heads)
  pub within : (track : ℕ) → track < to → Met track
      → (track / 2 < reach.cylinders) × (track % 2 < reach.heads)

abbrev pub IsReachOrNone : (Met : ℕ → Type 0) → (to : ℕ) → Option Reach → Type 0
IsReachOrNone Met to None = (track : ℕ) → track < to → Met track → ⊥
IsReachOrNone Met to (Some reach) = IsReachTo Met to reach
