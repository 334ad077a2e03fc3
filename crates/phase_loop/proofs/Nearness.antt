-- How near the loop's period and place stay to a clock that is within the bounds, in numbers.
use Rattle.std.proofs.Common.{◌≡◌, ℕ, zero, suc, ◌+◌, ◌-◌, ◌*◌, ◌/◌, ◌<◌, ◌≤◌, max, arith, subst}
use Rattle.std.proofs.Math.Nat.{div-eq_of_lt-le, div-mul-le_self, lt-div-mul-add, le-div_iff_mul-le, le_of_mul-le-mul_left, mul-le-mul_left}
use Rattle.phase_loop.specs.Start.{LONGEST, band_of, in_band}

-- The loop's period is within the slack of the local period. The slack of four cells twice over, with a displacement at both
-- ends, is less than half a period.
pub record IsPaced (nominal slack local period : ℕ) : Type 0 where
  pub low : local ≤ period + slack
  pub high : period ≤ local + slack
  pub spare : 32 * slack + nominal + 4 < 2 * period

-- The loop's place is within a displacement and the slack of four cells of the ideal place, which is counted from one nominal
-- cell before time 0 on.
pub record IsPlaced (nominal slack ideal place : ℕ) : Type 0 where
  pub low : 8 * ideal ≤ 8 * (place + nominal) + (nominal + 32 * slack + 8)
  pub high : 8 * (place + nominal) ≤ 8 * ideal + (nominal + 32 * slack)

-- a local period of a clock within the bounds
pub record IsLocal (nominal local : ℕ) : Type 0 where
  pub least : 16384 ≤ nominal
  pub low : 7 * nominal ≤ 8 * local
  pub high : 8 * local ≤ 9 * nominal

-- a transition near its ideal place
pub record IsTimed (nominal ideal fine : ℕ) : Type 0 where
  pub low : 8 * ideal ≤ 8 * (fine + nominal) + nominal
  pub high : 8 * (fine + nominal) ≤ 8 * ideal + nominal

-- so many periods lie in a way
abbrev periods_in : (way period : ℕ) → ℕ
periods_in way period = max 1 ((2 * way + period) / (2 * period))

pub is_count : (way period count : ℕ) → 1 ≤ count → count * (2 * period) ≤ 2 * way + period → 2 * way + period < (count + 1) * (2 * period)
    → periods_in way period ≡ count
is_count way period count some low high =
    let quotient : (2 * way + period) / (2 * period) ≡ count = div-eq_of_lt-le (2 * period) low high in
    omega (arith, quotient, some)

module _ (nominal slack local ideal period place : ℕ) (paced : IsPaced nominal slack local period) (placed : IsPlaced nominal slack ideal place) where
  -- the count is the distance
  pub count_right : (fine distance : ℕ) → IsTimed nominal (ideal + distance * local) fine → 1 ≤ distance → distance ≤ 4
      → periods_in (fine - place) period ≡ distance
  count_right fine zero timed some few = absurd (omega arith)
  count_right fine (suc zero) timed some few = is_count (fine - place) period 1 some (omega arith) (omega arith)
  count_right fine (suc (suc zero)) timed some few = is_count (fine - place) period 2 some (omega arith) (omega arith)
  count_right fine (suc (suc (suc zero))) timed some few = is_count (fine - place) period 3 some (omega arith) (omega arith)
  count_right fine (suc (suc (suc (suc zero)))) timed some few = is_count (fine - place) period 4 some (omega arith) (omega arith)
  count_right fine (suc (suc (suc (suc (suc more))))) timed some few = absurd (omega arith)

  -- the next place is as near
  pub next_placed : (fine distance : ℕ) → IsTimed nominal (ideal + distance * local) fine → 1 ≤ distance → distance ≤ 4
      → IsPlaced nominal slack (ideal + distance * local) ((place + distance * period + fine) / 2)
  next_placed fine zero timed some few = absurd (omega arith)
  next_placed fine (suc zero) timed some few = record { low = omega arith; high = omega arith }
  next_placed fine (suc (suc zero)) timed some few = record { low = omega arith; high = omega arith }
  next_placed fine (suc (suc (suc zero))) timed some few = record { low = omega arith; high = omega arith }
  next_placed fine (suc (suc (suc (suc zero)))) timed some few = record { low = omega arith; high = omega arith }
  next_placed fine (suc (suc (suc (suc (suc more))))) timed some few = absurd (omega arith)

  -- after a gap the loop starts anew: more than 32 periods lie in it
  pub gap_far : (last fine : ℕ) → IsLocal nominal local → IsTimed nominal ideal last → 48 * nominal ≤ fine - last
      → LONGEST < periods_in (fine - place) period
  gap_far last fine clock timed gap =
      let some : 0 < 2 * period = omega arith in
      let far : 33 ≤ (2 * (fine - place) + period) / (2 * period) =
      (le-div_iff_mul-le {k = 2 * period} {x = 33} {y = 2 * (fine - place) + period} some).1 (omega arith) in
      omega (arith, far)

-- where the loop starts
pub start_placed : (nominal slack ideal fine : ℕ) → IsTimed nominal ideal fine → IsPlaced nominal slack ideal fine
start_placed nominal slack ideal fine timed = record { low = omega arith; high = omega arith }

-- the slack of a period that follows a drive
abbrev pub following_slack : ℕ → ℕ
following_slack nominal = (5 * nominal + 768) / 256

-- the first period stays near over less than 64 steps of drift
pub drifted_paced : (nominal first begin local steps : ℕ) → IsLocal nominal local → 64 * first ≤ 64 * begin + nominal → 64 * begin ≤ 64 * first + nominal
    → 16384 * begin ≤ 16384 * local + steps * nominal → 16384 * local ≤ 16384 * begin + steps * nominal → steps < 64
    → IsPaced nominal (following_slack nominal) local first
drifted_paced nominal first begin local steps clock low high back forth few =
    let most : steps * nominal ≤ 63 * nominal = subst (λ (n : ℕ). n ≤ 63 * nominal) swap (subst (λ (n : ℕ). nominal * steps ≤ n) swap' (mul-le-mul_left {m = steps} {n = 63} nominal (omega (arith, few)))) in
    record { low = omega (arith, most); high = omega (arith, most); spare = omega (arith, most) }
  where
    swap : nominal * steps ≡ steps * nominal
    swap = omega arith

    swap' : nominal * 63 ≡ 63 * nominal
    swap' = omega arith

-- The mean of a way of `cells` cells, of which each is within a 256th of a nominal cell of the local period, and of which both ends
-- are displaced.
pub mean_paced : (nominal local way cells : ℕ) → IsLocal nominal local → 64 ≤ cells
    → cells * (256 * local) ≤ cells * nominal + (256 * way + 64 * nominal) → 256 * way ≤ cells * (256 * local) + (cells * nominal + 64 * nominal)
    → IsPaced nominal (following_slack nominal) local (in_band (band_of nominal) (way / cells))
mean_paced nominal local way cells clock many low high =
    let mean : ℕ = way / cells in
    let some : 0 < cells = omega (arith, many) in
    let below : mean * cells ≤ way = div-mul-le_self way cells in
    let above : way < mean * cells + cells = lt-div-mul-add {a = way} {b = cells} some in
    let ends : nominal * 64 ≤ nominal * cells = mul-le-mul_left {m = 64} {n = cells} nominal many in
    let parts : cells * (256 * local) ≡ 256 * (cells * local) = omega arith in
    let not_low : local * 256 ≤ mean * 256 + (2 * nominal + 256) =
    le_of_mul-le-mul_left {m = local * 256} {n = mean * 256 + (2 * nominal + 256)} {k = cells} (omega arith) some in
    let not_high : mean * 256 ≤ local * 256 + 2 * nominal =
    le_of_mul-le-mul_left {m = mean * 256} {n = local * 256 + 2 * nominal} {k = cells} (omega arith) some in
    banded mean not_low not_high
  where
    banded : (mean : ℕ) → local * 256 ≤ mean * 256 + (2 * nominal + 256) → mean * 256 ≤ local * 256 + 2 * nominal
        → IsPaced nominal (following_slack nominal) local (in_band (band_of nominal) mean)
    banded mean not_low not_high = record { low = omega arith; high = omega arith; spare = omega arith }

-- the slack of a period that is held
abbrev pub held_slack : ℕ → ℕ
held_slack nominal = nominal / 45

-- the first period stays near where the drive keeps its speed
pub held_paced : (nominal first begin local : ℕ) → IsLocal nominal begin → 64 * begin ≤ 64 * first + nominal
    → 45 * first ≤ 45 * local + nominal → 45 * local ≤ 45 * first + nominal → IsPaced nominal (held_slack nominal) local first
held_paced nominal first begin local clock near low high = record { low = omega arith; high = omega arith; spare = omega arith }
