use Rattle.std.proofs.Common.{◌-◌, ◌≤◌}
use Rattle.apple_gcr.specs.DiskBytes.{zeros_passed}
use Rattle.apple_gcr.proofs.FourCodes.{AreReadTo}
use Rattle.apple_gcr.proofs.data_field.values_from.Given as goal

abbrev pub invariant-loop-left : goal.invariant-loop-left
invariant-loop-left l =
    (l.left ≤ 342) × AreReadTo (zeros_passed l.rule) l.frame l.from l.values.items (342 - l.left) l.value l.place

abbrev pub decreases-loop-left : goal.decreases-loop-left
decreases-loop-left l = l.left
