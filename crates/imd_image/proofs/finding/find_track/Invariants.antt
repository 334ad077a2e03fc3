use Rattle.std.proofs.Common.{◌≡◌, ◌≤◌, length}
use Rattle.dump_reading.specs.Files.{shelf_at}
use Rattle.dump_turns.specs.Reaches.{track_number}
use Rattle.imd_image.specs.Reaches.{of_reach}
use Rattle.imd_image.specs.inside.Finding.{HaveNotedFiles}
use Rattle.imd_image.proofs.finding.find_track.Given as goal

abbrev pub invariant-loop-dump : goal.invariant-loop-dump
invariant-loop-dump g l = record {
  noted : HaveNotedFiles (of_reach l.dumps.stepping l.dumps.names.now l.fn.reach) (track_number l.fn.reach l.number) l.dump (shelf_at g.H.Source g.H.Shelf l.initial.shelf)
      (shelf_at g.H.Source g.H.Shelf l.shelf) l.room.books l.room.passed.items;
  few : length l.room.passed.items ≤ l.dump;
  track : l.room.track ≡ track_number l.fn.reach l.number;
}
