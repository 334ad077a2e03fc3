use Rattle.std.proofs.Common.{false, ◌≡◌, ◌≤◌, [], length}
use Rattle.index_turns.specs.Track.{KeepsRoom}
use Rattle.kryo_stream.specs.Bench.{KeepsBenchRoom}
use Rattle.kryo_stream.specs.inside.Progress.{Progress}
use Rattle.flux_base.specs.Counts.{Counts}
use Rattle.flux_base.specs.World.{source_counts}
use Rattle.kryo_stream.specs.Reads.{reads_at}
use Rattle.kryo_stream.proofs.reading.read_stream.Given as goal

abbrev pub invariant-loop : goal.invariant-loop
invariant-loop g l = record {
  rounds : l.counter ≤ l.number;
  bound : length l.intake.held ≤ 4096;
  progress : Progress (reads_at g.S.Source l.initial.source)
      (reads_at g.S.Source l.source) l.initial.intake.held l.intake.held l.number l.before l.flux.times l.bench;
  indexes : l.flux.indexes ≡ [];
  used : l.intake.used ≡ l.initial.intake.used;
  room : KeepsRoom l.initial.flux l.flux;
  bench : KeepsBenchRoom l.fn.bench l.bench;
  counts : Counts false (source_counts g.S.Source l.initial.source) (source_counts g.S.Source l.source);
}
