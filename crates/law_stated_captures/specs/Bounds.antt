-- The bounds of disturbance once more, in plain numbers: a second spelling, which cites none of the
-- definitions that it is to check. Times are in ticks; the nominal cell, ideal places and local
-- periods in fine units, of which 1024 make a tick.
use Rattle.std.specs.Prelude.{◌≡◌, ◌<◌, ◌≤◌, ℕ, ◌+◌, ◌-◌, ◌*◌, ◌%◌, ℤ, pos, ◌+ℤ◌, ◌-ℤ◌, nat_abs}
use Rattle.std.specs.Prelude.{Bool, true, false, List, length, get_or, slice_index}

-- The transitions at these times are consecutive ones at these places of the endlessly repeated
-- ring. With each goes a local period, the length of a cell there, and an ideal place, which may
-- lie before time 0. Each ideal place is so many local periods after the one before as there are
-- cells between their places. A local period is at least seven eighths of the nominal cell and at
-- most nine; neighbouring ones differ by at most one part in 16384 of it, and each time by at most
-- an eighth of it from its ideal place.
pub record KeepBounds (times : List ℕ) (ring : List Bool) (nominal : ℕ)
    (places periods : List ℕ) : Type 0 where
  pub each_place : length places ≡ length times
  pub each_period : length periods ≡ length times
  pub ones : (i : ℕ) → i < length times
      → get_or ring (slice_index places i % length ring) false ≡ true
  pub rising : (i : ℕ) → i + 1 < length times → slice_index places i < slice_index places (i + 1)
  pub none_between : (i place : ℕ) → i + 1 < length times → slice_index places i < place
      → place < slice_index places (i + 1)
      → get_or ring (place % length ring) false ≡ false
  pub ideal : ℕ → ℤ
  pub spaced : (i : ℕ) → i + 1 < length times
      → ideal (i + 1)
      ≡ ideal i +ℤ pos
      ((slice_index places (i + 1) - slice_index places i) * slice_index periods i)
  pub fastest : (i : ℕ) → i < length times → 7 * nominal ≤ 8 * slice_index periods i
  pub slowest : (i : ℕ) → i < length times → 8 * slice_index periods i ≤ 9 * nominal
  pub steady : (i : ℕ) → i + 1 < length times
      → 16384 * nat_abs (pos (slice_index periods (i + 1)) -ℤ pos (slice_index periods i)) ≤ nominal
  pub near : (i : ℕ) → i < length times
      → 8 * nat_abs (pos (1024 * slice_index times i) -ℤ ideal i) ≤ nominal
