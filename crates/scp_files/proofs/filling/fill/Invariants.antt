use Rattle.std.proofs.Common.{false, ◌≡◌, ◌≤◌, ◌-◌, length, take}
use Rattle.std.specs.Io.KnownBytes.{Consumes}
use Rattle.flux_base.specs.Counts.{Counts}
use Rattle.flux_base.specs.World.{source_counts}
use Rattle.scp_files.proofs.filling.fill.Given as goal

abbrev pub invariant-loop-filled : goal.invariant-loop-filled
invariant-loop-filled g l = record {
  within : l.filled ≤ length l.buffer;
  len : length l.buffer ≡ length l.initial.buffer;
  took : Consumes (g.S.Source.left l.initial.source) (g.S.Source.left l.source) (take l.filled l.buffer);
  counts : Counts false (source_counts g.S.Source l.initial.source) (source_counts g.S.Source l.source);
}

abbrev pub decreases-loop-filled : goal.decreases-loop-filled
decreases-loop-filled g l = length l.buffer - l.filled
