use Rattle.std.proofs.Common.{◌≡◌, ◌<◌, ◌≤◌, ℕ, length, slice_index}
use Rattle.phase_loop.specs.inside.Certain.{IsIn, IsRemainder}
use Rattle.phase_loop.proofs.phase.certain.make_remainders.Given as goal

abbrev pub invariant-loop-place : goal.invariant-loop-place
invariant-loop-place l = record {
  whole : length l.ticks ≡ 2112;
  are : (place : ℕ) → place < l.place → IsRemainder (slice_index l.fn.ticks place) (slice_index l.counts place) l.period (slice_index l.ticks place);
  within : (place : ℕ) → place < l.place → IsIn l.extent (slice_index l.ticks place);
  later : (place : ℕ) → l.place ≤ place → slice_index l.ticks place ≡ slice_index l.fn.ticks place;
}
