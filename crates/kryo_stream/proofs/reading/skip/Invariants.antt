use Rattle.std.proofs.Common.{false, ◌≡◌, ◌≤◌, ◌+◌, ◌*◌, ◌-◌, length}
use Rattle.kryo_stream.specs.inside.Progress.{IsPassing}
use Rattle.flux_base.specs.Counts.{Counts}
use Rattle.flux_base.specs.World.{source_counts}
use Rattle.kryo_stream.specs.Reads.{reads_at}
use Rattle.kryo_stream.proofs.reading.skip.Given as goal

abbrev pub invariant-loop-rest : goal.invariant-loop-rest
invariant-loop-rest g l = record {
  passing : IsPassing (reads_at g.S.Source l.initial.source)
      (reads_at g.S.Source l.source) l.initial.intake.held l.intake.held l.count (l.count - l.rest);
  within : l.rest ≤ l.count;
  used : l.intake.used ≡ l.initial.intake.used;
  counts : Counts false (source_counts g.S.Source l.initial.source) (source_counts g.S.Source l.source);
}

abbrev pub decreases-loop-rest : goal.decreases-loop-rest
decreases-loop-rest g l = 2 * l.rest + (1 - length l.intake.held)
