use Rattle.std.proofs.Common.{◌<◌, ◌+◌, ◌-◌, ℕ, slice_index}
use Rattle.phase_loop.specs.inside.Certain.{IsIn, low_difference}
use Rattle.phase_loop.proofs.phase.certain.windows_extent.Given as goal

abbrev pub invariant-loop-place : goal.invariant-loop-place
invariant-loop-place l = (place : ℕ) → place < l.place → IsIn l.extent (low_difference (slice_index l.sums (place + 64)) (slice_index l.sums place))
