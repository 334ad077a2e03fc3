-- The faults of a file that is closed, with those of its maker.
use Rattle.std.proofs.Common.{◌≡◌, ◌≤◌, ◌+◌, ◌∙◌, ℕ, zero, suc, min, Some, arith, ap, sym}
use Rattle.flux_base.specs.Outside.{GREATEST_COUNT}
use Rattle.track_shelf.specs.Files.{risen_by}
use Rattle.file_maker.specs.Made.{TakesOver}
use Rattle.file_maker.specs.Memory.{told_counts}

-- a count below the greatest that rises so often
risen_by-is : (often count : ℕ) → count ≤ GREATEST_COUNT → risen_by often count ≡ min (count + often) GREATEST_COUNT
risen_by-is zero count below = omega (arith, below)
risen_by-is (suc often) count below = let before = risen_by-is often count below in omega (arith, before, below)

-- the sum of both, as far as a count goes
pub takes_over : (file before after : ℕ) → before ≤ GREATEST_COUNT → after ≡ min (before + file) GREATEST_COUNT
    → TakesOver (told_counts file) (told_counts before) (told_counts after)
takes_over file before after below is = record {
  later = omega (arith, is, below);
  cause = λ rose. omega (arith, is, below, rose);
  counted = ap Some (is ∙ sym (risen_by-is file before below));
}
