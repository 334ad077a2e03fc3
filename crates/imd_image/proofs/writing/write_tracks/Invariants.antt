use Rattle.std.proofs.Common.{◌≡◌, ◌*◌, length, List}
use Rattle.dump_reading.specs.Files.{shelf_at}
use Rattle.flux_base.specs.Blames.{CountsBy, no_one}
use Rattle.flux_base.specs.World.{sinks_counts}
use Rattle.imd_image.specs.Found.{TrackFound}
use Rattle.imd_image.specs.Totals.{totals_of}
use Rattle.imd_image.specs.inside.Counted.{AreWithin}
use Rattle.imd_image.specs.inside.Told.{WroteTracks}
use Rattle.imd_image.proofs.writing.write_tracks.Given as goal

abbrev pub invariant-loop-number : goal.invariant-loop-number
invariant-loop-number g l = record {
  founds : List TrackFound;
  many : length founds ≡ l.number;
  wrote : WroteTracks (record { stepping = l.dumps.stepping; names = l.dumps.names.now }) (shelf_at g.H.Source g.H.Shelf l.initial.shelf) (shelf_at g.H.Source g.H.Shelf l.shelf)
      l.reach (g.W.Sink.written l.initial.file) (g.W.Sink.written l.file) (g.N.Sink.written l.initial.notes) (g.N.Sink.written l.notes) founds;
  totals_are : l.totals ≡ totals_of founds;
  few : AreWithin (1024 * l.number) l.totals;
  counts : CountsBy no_one (sinks_counts g.W.Sink g.N.Sink l.initial.file l.initial.notes) (sinks_counts g.W.Sink g.N.Sink l.file l.notes);
}
