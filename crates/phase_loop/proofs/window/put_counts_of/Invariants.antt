use Rattle.std.proofs.Common.{◌≡◌, ◌+◌, ◌++◌, take, map, length}
use Rattle.phase_loop.proofs.window.put_counts_of.Given as goal

abbrev pub invariant-loop-place : goal.invariant-loop-place
invariant-loop-place l =
    (length l.counts ≡ length l.fn.counts) × (take (l.from + l.place) l.counts ≡ take l.from l.fn.counts ++ map (λ interval. interval.count) (take l.place l.intervals))
