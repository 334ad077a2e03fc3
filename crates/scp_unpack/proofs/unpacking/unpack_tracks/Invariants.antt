use Rattle.std.proofs.Common.{◌≡◌, ◌≤◌}
use Rattle.flux_base.specs.Blames.{CountsBy, no_one, three_counts}
use Rattle.flux_base.specs.Counts.{counts_of}
use Rattle.flux_base.specs.World.{sink_counts, source_counts}
use Rattle.track_shelf.specs.World.{told_at}
use Rattle.scp_unpack.specs.inside.Steps.{HasUnpacked}
use Rattle.scp_unpack.proofs.unpacking.unpack_tracks.Given as goal

abbrev pub invariant-loop-number : goal.invariant-loop-number
invariant-loop-number g l = record {
  done : HasUnpacked (record { shelf = g.H.Shelf.files l.initial.shelf; path = l.path; folder = l.folder }) l.number
      (g.M.FileMaker.made l.initial.maker) (g.M.FileMaker.made l.maker) (g.N.Sink.written l.initial.notes) (g.N.Sink.written l.notes)
      l.unpacked;
  files : l.unpacked.files ≤ l.number;
  refused : l.unpacked.refused ≤ l.number;
  told : told_at g.H.Source g.H.Shelf l.shelf ≡ told_at g.H.Source g.H.Shelf l.initial.shelf;
  blames : CountsBy no_one
      (three_counts (source_counts g.H.Source l.initial.shelf) (counts_of g.M.FileMaker.faults g.M.FileMaker.failed l.initial.maker)
      (sink_counts g.N.Sink l.initial.notes))
      (three_counts (source_counts g.H.Source l.shelf) (counts_of g.M.FileMaker.faults g.M.FileMaker.failed l.maker)
      (sink_counts g.N.Sink l.notes));
}
