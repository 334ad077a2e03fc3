use Rattle.std.proofs.Common.{◌≡◌, ◌≤◌, ◌<◌, ◌+◌, ◌*◌, ℕ, length, slice_index}
use Rattle.phase_loop.specs.inside.Certain.{AreSums}
use Rattle.phase_loop.proofs.phase.certain.put_sums.Given as goal

abbrev pub invariant-loop-place : goal.invariant-loop-place
invariant-loop-place l = record {
  whole : length l.sums ≡ 2113;
  last : slice_index l.sums l.place ≡ l.sum;
  are : AreSums l.numbers l.sums l.place;
}
