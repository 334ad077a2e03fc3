use Rattle.std.proofs.Common.{◌≡◌, ◌-◌, ◌≤◌}
use Rattle.apple_gcr.specs.DiskBytes.{bytes_end}
use Rattle.apple_gcr.proofs.disk_bytes.controller_end.Given as goal

abbrev pub invariant-loop-left : goal.invariant-loop-left
invariant-loop-left l = (l.left ≤ l.count) × (l.end ≡ bytes_end 7 l.frame l.from (l.count - l.left))

abbrev pub decreases-loop-left : goal.decreases-loop-left
decreases-loop-left l = l.left
