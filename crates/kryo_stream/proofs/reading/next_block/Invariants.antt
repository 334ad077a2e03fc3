use Rattle.std.proofs.Common.{false, ◌≡◌, ◌≤◌, ◌-◌, length}
use Rattle.kryo_stream.specs.inside.Held.{Took}
use Rattle.kryo_stream.specs.inside.Progress.{IsBlockOpen}
use Rattle.flux_base.specs.Counts.{Counts}
use Rattle.flux_base.specs.World.{source_counts}
use Rattle.kryo_stream.specs.Reads.{reads_at}
use Rattle.kryo_stream.proofs.reading.next_block.Given as goal

abbrev pub invariant-loop-reading : goal.invariant-loop-reading
invariant-loop-reading g l = record {
  took : Took (IsBlockOpen l.before l.initial.intake.held) (reads_at g.S.Source l.initial.source)
      (reads_at g.S.Source l.source) l.initial.intake.held l.intake.held;
  used : l.intake.used ≡ l.initial.intake.used;
  counts : Counts false (source_counts g.S.Source l.initial.source) (source_counts g.S.Source l.source);
}

abbrev pub decreases-loop-reading : goal.decreases-loop-reading
decreases-loop-reading g l = 16 - length l.intake.held
