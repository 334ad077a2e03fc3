use Rattle.std.proofs.Common.{[]}
use Rattle.kryo_stream.specs.inside.Keeping.{AddsEnds}
use Rattle.kryo_stream.proofs.bench.StreamBench.skip.Given as goal

abbrev pub invariant-loop : goal.invariant-loop
invariant-loop l = AddsEnds l.counter 0 [] l.fn.self l.self
