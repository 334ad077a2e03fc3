-- Rings whose ones are near enough to one another for wider bounds too.
use Rattle.std.specs.Prelude.{◌≤◌, ℕ, Bool, List}
use Rattle.std.proofs.Common.{arith}
use Rattle.track_rings.specs.Rings.{IsSpaced}

-- ones that lie within bounds lie within wider ones
pub spaced_wider : (shortest longest : ℕ) {least most : ℕ} {ring : List Bool} → shortest ≤ least
    → most ≤ longest → IsSpaced least most ring → IsSpaced shortest longest ring
spaced_wider shortest longest low high spaced = record {
  has_one = spaced.has_one;
  apart = λ place distance near.
      let both = spaced.apart place distance near in
      (omega (arith, low, both.0), omega (arith, high, both.1));
}
