use Rattle.std.proofs.Common.{false, ◌≡◌, ◌≤◌, ◌-◌, ◌++◌, true, length}
use Rattle.kryo_stream.specs.inside.Held.{Took}
use Rattle.kryo_stream.specs.Outcome.{DoNotTell}
use Rattle.flux_base.specs.Counts.{Counts}
use Rattle.flux_base.specs.World.{source_counts}
use Rattle.kryo_stream.specs.Reads.{reads_at}
use Rattle.kryo_stream.proofs.reading.pass_padding.Given as goal

abbrev pub invariant-loop-count : goal.invariant-loop-count
invariant-loop-count g l = record {
  took : Took (λ so_far. DoNotTell true (l.initial.intake.held ++ so_far)) (reads_at g.S.Source l.initial.source)
      (reads_at g.S.Source l.source) l.initial.intake.held l.intake.held;
  used : l.intake.used ≡ l.initial.intake.used;
  counts : Counts false (source_counts g.S.Source l.initial.source) (source_counts g.S.Source l.source);
}

abbrev pub decreases-loop-count : goal.decreases-loop-count
decreases-loop-count g l = 17 - length l.intake.held
