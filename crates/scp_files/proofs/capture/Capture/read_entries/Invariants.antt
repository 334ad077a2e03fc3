use Rattle.std.proofs.Common.{false, ◌≡◌, ◌+◌, ◌*◌, ℕ, List, length}
use Rattle.std.specs.Io.KnownBytes.{Consumes}
use Rattle.flux_base.specs.Counts.{Counts}
use Rattle.flux_base.specs.World.{source_counts}
use Rattle.scp_files.specs.Tracks.{words}
use Rattle.scp_files.specs.inside.Noting.{Noted}
use Rattle.scp_files.proofs.capture.Capture.read_entries.Given as goal

abbrev pub invariant-loop-left : goal.invariant-loop-left
invariant-loop-left g l = record {
  taken : List ℕ;
  consumed : Consumes (g.S.Source.left l.initial.source) (g.S.Source.left l.source) taken;
  half : ℕ;
  even : l.left ≡ 2 * half;
  size : length taken + l.left ≡ 2 * l.count;
  room : length l.buffer ≡ 4096;
  noted : Noted (words taken) l.initial.self l.self;
  counts : Counts false (source_counts g.S.Source l.initial.source) (source_counts g.S.Source l.source);
}

abbrev pub decreases-loop-left : goal.decreases-loop-left
decreases-loop-left g l = l.left
