use Rattle.std.proofs.Common.{◌≡◌, length}
use Rattle.index_turns.specs.Track.{KeepsRoom}
use Rattle.kryo_stream.specs.Bench.{KeepsBenchRoom}
use Rattle.kryo_stream.specs.inside.Progress.{ReadsOn}
use Rattle.kryo_stream.proofs.reading.pass_in_stream.Given as goal

abbrev pub decreases-loop-count : goal.decreases-loop-count
decreases-loop-count l = length l.intake.held

abbrev pub invariant-loop-count : goal.invariant-loop-count
invariant-loop-count l = record {
  reading : ReadsOn l.count l.fn.intake.held l.intake.held l.fn.before l.before l.fn.flux.times l.flux.times l.fn.bench l.bench;
  used : l.intake.used ≡ l.fn.intake.used;
  indexes : l.flux.indexes ≡ l.fn.flux.indexes;
  room : KeepsRoom l.fn.flux l.flux;
  bench : KeepsBenchRoom l.fn.bench l.bench;
}
