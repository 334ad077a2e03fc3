use Rattle.std.proofs.Common.{◌≤◌, ◌^◌}
use Rattle.std.specs.List.{All}
use Rattle.bench_loop.proofs.noisy_track.Given as goal

abbrev pub invariant-loop-number : goal.invariant-loop-number
invariant-loop-number l = All (λ time. time ≤ l.last) l.flux.times × (l.last ≤ 2 ^ 39)
