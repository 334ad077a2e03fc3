use Rattle.std.proofs.Common.{◌≡◌, ◌<◌}
use Rattle.std.specs.List.{All}
use Rattle.test_engine.proofs.tests.streams.push_indexes.Given as goal

abbrev pub invariant-loop-index : goal.invariant-loop-index
invariant-loop-index l = All (λ index. index < l.least) l.flux.indexes × (l.flux.times ≡ l.initial.flux.times)
