use Rattle.std.proofs.Common.{◌≡◌, ◌≤◌, false, length}
use Rattle.std.specs.Prelude.{All}
use Rattle.std.specs.Vec.{vec_capacity}
use Rattle.std.specs.Io.KnownBytes.{Appends}
use Rattle.flux_base.specs.Counts.{Counts}
use Rattle.flux_base.specs.World.{sink_counts}
use Rattle.dump_reading.specs.Files.{shelf_at}
use Rattle.dump_turns.specs.Files.{AreFound}
use Rattle.dump_turns.specs.Lines.{file_lines}
use Rattle.dump_turns.specs.inside.Told.{IsBoundedFound}
use Rattle.dump_turns.proofs.telling.tell_files.Given as goal

abbrev pub invariant-loop-number : goal.invariant-loop-number
invariant-loop-number g l = record {
  found : AreFound l.dump l.reach (shelf_at g.H.Source g.H.Shelf l.initial.shelf) (shelf_at g.H.Source g.H.Shelf l.shelf) l.founds.items;
  many : length l.founds.items ≡ l.number;
  room : 198 ≤ vec_capacity l.founds;
  bounded : All IsBoundedFound l.founds.items;
  buffer : length l.buffer ≡ 8388608;
  grew : Appends (g.W.Sink.written l.initial.lines) (g.W.Sink.written l.lines) (file_lines l.reach l.founds.items);
  counts : Counts false (sink_counts g.W.Sink l.initial.lines) (sink_counts g.W.Sink l.lines);
}
