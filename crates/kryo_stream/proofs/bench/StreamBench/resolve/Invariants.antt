use Rattle.std.proofs.Common.{◌≡◌}
use Rattle.index_turns.specs.Track.{KeepsRoom}
use Rattle.kryo_stream.proofs.ResolveLemmas.{Placing}
use Rattle.kryo_stream.proofs.bench.StreamBench.resolve.Given as goal

abbrev pub invariant-loop-mark : goal.invariant-loop-mark
invariant-loop-mark l = record {
  placing : Placing l.self l.fn.flux.times l.total l.mark-index l.fn.flux.spare_indexes l.flux.spare_indexes l.flux.indexes;
  times : l.flux.times ≡ l.fn.flux.times;
  room : KeepsRoom l.fn.flux l.flux;
}
