use Rattle.std.proofs.Common.{◌≡◌, ℕ, ◌-◌, ◌<◌, ◌≤◌, get_or}
use Rattle.sector_images.proofs.places.holder.Given as goal

-- where the number stands is not passed
abbrev pub invariant-loop-sector : goal.invariant-loop-sector
invariant-loop-sector l = record {
  not_passed : (sector : ℕ) → sector < 16 → get_or l.order sector 0 ≡ l.number → l.sector ≤ sector;
  within : l.sector < 16;
}

abbrev pub decreases-loop-sector : goal.decreases-loop-sector
decreases-loop-sector l = 16 - l.sector
