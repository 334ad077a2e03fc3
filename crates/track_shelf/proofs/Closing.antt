-- The faults of a file that is closed, with those of its shelf.
use Rattle.std.proofs.Common.{◌≡◌, ◌≤◌, ◌+◌, ℕ, zero, suc, min, arith}
use Rattle.flux_base.specs.Outside.{GREATEST_COUNT}
use Rattle.track_shelf.specs.Files.{risen_by}

-- a count below the greatest that rises so often
pub risen_by-is : (often count : ℕ) → count ≤ GREATEST_COUNT → risen_by often count ≡ min (count + often) GREATEST_COUNT
risen_by-is zero count below = omega (arith, below)
risen_by-is (suc often) count below = let before = risen_by-is often count below in omega (arith, before, below)
