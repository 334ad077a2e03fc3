-- Speeds at each bound, and drives that keep to a mean.
use Rattle.std.specs.Prelude.{◌≡◌, ◌<◌, ◌≤◌, ℕ, ◌+◌, ◌-◌, ◌*◌, ◌/◌, max, min, pos, ◌-ℤ◌, nat_abs, refl}
use Rattle.std.proofs.Common.{arith}
use Rattle.std.proofs.lemmas.Int.{ints}
use Rattle.std.proofs.Math.Nat.{mul-le-mul_right}
use Rattle.law_stated_captures.specs.Reached.{BoundsAreSpeeds, SteadyBoundsAreSpeeds, always, slowing, speeding}
use Rattle.law_stated_captures.specs.Reaching.{IsFurthestSpeed, IsSpeed}

none_apart : (n nominal : ℕ) → 16384 * nat_abs (pos n -ℤ pos n) ≤ nominal
none_apart n nominal = omega (arith, ints)

is_always : (nominal period mean : ℕ) → 7 * nominal ≤ 8 * period → 8 * period ≤ 9 * nominal → 64 * nat_abs (pos mean -ℤ pos period) ≤ nominal
    → IsSpeed nominal (always period) mean
is_always nominal period mean fastest slowest near = record {
  fastest = λ i. fastest;
  slowest = λ i. slowest;
  drift = λ i. none_apart period nominal;
  near = near;
}

pub bounds_are_speeds : BoundsAreSpeeds
bounds_are_speeds nominal least =
    let fast : ℕ = (7 * nominal + 7) / 8 in
    let slow : ℕ = 9 * nominal / 8 in (
      is_always nominal fast (fast - nominal / 64) (omega arith) (omega (arith, least)) (omega (arith, ints)),
      is_always nominal fast (fast + nominal / 64) (omega arith) (omega (arith, least)) (omega (arith, ints)),
      is_always nominal slow (slow - nominal / 64) (omega (arith, least)) (omega arith) (omega (arith, ints)),
      is_always nominal slow (slow + nominal / 64) (omega (arith, least)) (omega arith) (omega (arith, ints)),
    )

-- so far it has drifted after so many transitions
module _ (nominal mean step far : ℕ) (least : 16384 ≤ nominal) (step_is : step ≡ nominal / 16384) where
  next_step : (i : ℕ) → (i + 1) * step ≡ i * step + step
  next_step i = omega arith

  many_steps : (i : ℕ) → 256 ≤ i → 256 * step ≤ i * step
  many_steps i many = mul-le-mul_right step many

  module _ (far_is : far ≡ nominal / 45) where
    slow_steps : (i : ℕ) → 16384 * nat_abs (pos (min (mean + nominal / 64 + (i + 1) * step) (mean + far)) -ℤ pos (min (mean + nominal / 64 + i * step) (mean + far))) ≤ nominal
    slow_steps i = (let next = next_step i in omega (arith, ints, next, step_is))

    slow_keeps : (i : ℕ) → 45 * nat_abs (pos mean -ℤ pos (min (mean + nominal / 64 + i * step) (mean + far))) ≤ nominal
    slow_keeps i = omega (arith, ints, far_is)

    slow_far : (i : ℕ) → 256 ≤ i → nominal < 45 * (nat_abs (pos mean -ℤ pos (min (mean + nominal / 64 + i * step) (mean + far))) + 1)
    slow_far i many = (let steps = many_steps i many in omega (arith, ints, steps, step_is, far_is, least))

    fast_steps : (i : ℕ) → 16384 * nat_abs (pos (max (mean - nominal / 64 - (i + 1) * step) (mean - far)) -ℤ pos (max (mean - nominal / 64 - i * step) (mean - far))) ≤ nominal
    fast_steps i = (let next = next_step i in omega (arith, ints, next, step_is))

    fast_keeps : (i : ℕ) → 45 * nat_abs (pos mean -ℤ pos (max (mean - nominal / 64 - i * step) (mean - far))) ≤ nominal
    fast_keeps i = omega (arith, ints, far_is)

    fast_far : far ≤ mean → (i : ℕ) → 256 ≤ i → nominal < 45 * (nat_abs (pos mean -ℤ pos (max (mean - nominal / 64 - i * step) (mean - far))) + 1)
    fast_far some i many = (let steps = many_steps i many in omega (arith, ints, steps, step_is, far_is, least, some))

is_slowing : (nominal mean : ℕ) → 16384 ≤ nominal → 7 * nominal ≤ 8 * (mean - nominal / 45) → 8 * (mean + nominal / 45) ≤ 9 * nominal
    → IsFurthestSpeed nominal (slowing nominal mean) mean
is_slowing nominal mean least fast slow = record {
  is = record {
    fastest = λ i. omega (arith, fast);
    slowest = λ i. omega (arith, slow);
    drift = slow_steps nominal mean (nominal / 16384) (nominal / 45) least refl refl;
    near = omega (arith, ints);
  };
  keeps = slow_keeps nominal mean (nominal / 16384) (nominal / 45) least refl refl;
  furthest = slow_far nominal mean (nominal / 16384) (nominal / 45) least refl refl;
}

is_speeding : (nominal mean : ℕ) → 16384 ≤ nominal → 7 * nominal ≤ 8 * (mean - nominal / 45) → 8 * (mean + nominal / 45) ≤ 9 * nominal
    → IsFurthestSpeed nominal (speeding nominal mean) mean
is_speeding nominal mean least fast slow = record {
  is = record {
    fastest = λ i. omega (arith, fast);
    slowest = λ i. omega (arith, slow);
    drift = fast_steps nominal mean (nominal / 16384) (nominal / 45) least refl refl;
    near = omega (arith, ints);
  };
  keeps = fast_keeps nominal mean (nominal / 16384) (nominal / 45) least refl refl;
  furthest = fast_far nominal mean (nominal / 16384) (nominal / 45) least refl refl (omega (arith, fast, least));
}

pub steady_bounds_are_speeds : SteadyBoundsAreSpeeds
steady_bounds_are_speeds nominal mean least fast slow = (is_slowing nominal mean least fast slow, is_speeding nominal mean least fast slow)
