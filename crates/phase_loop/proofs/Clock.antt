-- A clock within the bounds, transition by transition: how far its local periods drift, and how long its ways are.
use Rattle.std.proofs.Common.{◌≡◌, ℕ, zero, suc, ◌+◌, ◌-◌, ◌*◌, ◌/◌, ◌<◌, ◌≤◌, arith, ◌∙◌, ap}
use Rattle.std.proofs.Math.Nat.{mul-le-mul_left}
use Rattle.phase_loop.specs.Start.{band_of, in_band}
use Rattle.phase_loop.proofs.Nearness.{IsLocal, IsTimed, IsPaced, drifted_paced, following_slack, mean_paced}

-- So many transitions, with their times in fine units, the places of their ones, the distances to the next ones, the local
-- periods and the ideal places. No more than that is known of numbers from `count` on.
pub record IsClock (nominal count : ℕ) (fine place distance local ideal : ℕ → ℕ) : Type 0 where
  pub speed : (i : ℕ) → i < count → IsLocal nominal (local i)
  pub up : (i : ℕ) → suc i < count → 16384 * local (suc i) ≤ 16384 * local i + nominal
  pub down : (i : ℕ) → suc i < count → 16384 * local i ≤ 16384 * local (suc i) + nominal
  pub timed : (i : ℕ) → i < count → IsTimed nominal (ideal i) (fine i)
  pub spaced : (i : ℕ) → suc i < count → ideal (suc i) ≡ ideal i + distance i * local i
  pub further : (i : ℕ) → suc i < count → place (suc i) ≡ place i + distance i
  pub some : (i : ℕ) → suc i < count → 1 ≤ distance i
  pub few : (i : ℕ) → suc i < count → distance i ≤ 4

module _ (nominal count : ℕ) (fine place distance local ideal : ℕ → ℕ) (clock : IsClock nominal count fine place distance local ideal) where
  -- over some transitions
  record HasDrifted (from steps : ℕ) : Type 0 where
    pub up : 16384 * local (from + steps) ≤ 16384 * local from + steps * nominal
    pub down : 16384 * local from ≤ 16384 * local (from + steps) + steps * nominal

  drift : (from steps : ℕ) → from + steps < count → HasDrifted from steps
  drift from zero within =
      let same : local (from + 0) ≡ local from = let e : from + 0 ≡ from = omega arith in ap local e in
      record { up = omega (arith, same); down = omega (arith, same) }
  drift from (suc steps) within =
      let before = drift from steps (omega (arith, within)) in
      let e : from + suc steps ≡ suc (from + steps) = omega arith in
      let same : local (from + suc steps) ≡ local (suc (from + steps)) = ap local e in
      let step : suc (from + steps) < count = omega (arith, within) in
      let u = clock.up (from + steps) step in
      let d = clock.down (from + steps) step in
      record { up = omega (arith, before.up, u, same); down = omega (arith, before.down, d, same) }

  -- a local period that is near another one
  record IsNearby (period other : ℕ) : Type 0 where
    pub low : 16384 * other ≤ 16384 * period + 64 * nominal
    pub high : 16384 * period ≤ 16384 * other + 64 * nominal

  -- the way over some transitions whose local periods are all near one
  record IsWay (period from steps : ℕ) : Type 0 where
    pub cells : ℕ
    pub places : place from + cells ≡ place (from + steps)
    pub many : steps ≤ cells
    pub low : 16384 * ideal from + cells * (16384 * period) ≤ 16384 * ideal (from + steps) + cells * (64 * nominal)
    pub high : 16384 * ideal (from + steps) ≤ 16384 * ideal from + (cells * (16384 * period) + cells * (64 * nominal))

  way : (period from steps : ℕ) → from + steps < count → ((k : ℕ) → k < steps → IsNearby period (local (from + k))) → IsWay period from steps
  way period from zero within near =
      let e : from + 0 ≡ from = omega arith in
      let same : ideal (from + 0) ≡ ideal from = ap ideal e in
      record {
        cells = 0;
        places = let p : place (from + 0) ≡ place from = ap place e in omega (arith, p);
        many = omega arith;
        low = omega (arith, same);
        high = omega (arith, same);
      }
  way period from (suc steps) within near =
      let before = way period from steps (omega (arith, within)) (λ k under. near k (omega (arith, under))) in
      let e : from + suc steps ≡ suc (from + steps) = omega arith in
      let step : suc (from + steps) < count = omega (arith, within) in
      let d : ℕ = distance (from + steps) in
      let l : ℕ = local (from + steps) in
      let here = near steps (omega arith) in
      let spaced : ideal (from + suc steps) ≡ ideal (from + steps) + d * l = ap ideal e ∙ clock.spaced (from + steps) step in
      let further : place (from + suc steps) ≡ place (from + steps) + d = ap place e ∙ clock.further (from + steps) step in
      let some : 1 ≤ d = clock.some (from + steps) step in
      let low : d * (16384 * period) ≤ d * (16384 * l + 64 * nominal) = mul-le-mul_left d here.high in
      let high : d * (16384 * l) ≤ d * (16384 * period + 64 * nominal) = mul-le-mul_left d here.low in
      record {
        cells = before.cells + d;
        places = omega (arith, before.places, further);
        many = omega (arith, before.many, some);
        low = omega (arith, before.low, spaced, low);
        high = omega (arith, before.high, spaced, high);
      }

  -- the mean of 64 intervals
  pub mean_near : (from last cells : ℕ) → from + 64 ≡ last → last < count → place from + cells ≡ place last
      → IsPaced nominal (following_slack nominal) (local last) (in_band (band_of nominal) ((fine last - fine from) / cells))
  mean_near from last cells is within places =
      let nearby : (k : ℕ) → k < 64 → IsNearby (local last) (local (from + k)) = λ k under.
      let steps : ℕ = 64 - k in
      let e : from + k + steps ≡ last = omega (arith, is, under) in
      let far = drift (from + k) steps (omega (arith, e, within)) in
      let same : local (from + k + steps) ≡ local last = ap local e in
      let most : nominal * steps ≤ nominal * 64 = mul-le-mul_left {m = steps} {n = 64} nominal (omega arith) in
      record { low = omega (arith, far.down, same, most); high = omega (arith, far.up, same, most) } in
      let w = way (local last) from 64 (omega (arith, is, within)) nearby in
      let there : ideal (from + 64) ≡ ideal last = ap ideal is in
      let end : place (from + 64) ≡ place last = ap place is in
      let same : w.cells ≡ cells = omega (arith, w.places, end, places) in
      let low : 16384 * ideal from + cells * (16384 * local last) ≤ 16384 * ideal last + cells * (64 * nominal) = rw (← same, ← there) w.low in
      let high : 16384 * ideal last ≤ 16384 * ideal from + (cells * (16384 * local last) + cells * (64 * nominal)) = rw (← same, ← there) w.high in
      let many : 64 ≤ cells = omega (arith, w.many, same) in
      let first = clock.timed from (omega (arith, is, within)) in
      let final = clock.timed last within in
      mean_paced nominal (local last) (fine last - fine from) cells (clock.speed last within) many
      (omega (arith, low, first.low, first.high, final.low, final.high))
      (omega (arith, high, first.low, first.high, final.low, final.high))

  -- the period with which the loop starts, for the first 64 transitions
  pub first_near : (first last : ℕ) → 64 * first ≤ 64 * local 0 + nominal → 64 * local 0 ≤ 64 * first + nominal → last < 64 → last < count
      → IsPaced nominal (following_slack nominal) (local last) first
  first_near first last low high few within =
      let far = drift 0 last (omega (arith, within)) in
      let same : local (0 + last) ≡ local last = let e : 0 + last ≡ last = omega arith in ap local e in
      drifted_paced nominal first (local 0) (local last) last (clock.speed last within) low high (omega (arith, far.down, same)) (omega (arith, far.up, same)) few
