use Rattle.flux_base.specs.Blames.{CountsBy, no_counts, no_one, three_counts}
use Rattle.flux_base.specs.Counts.{counts_of}
use Rattle.flux_base.specs.World.{source_counts}
use Rattle.stream_files.specs.inside.Progress.{HasSplit}
use Rattle.stream_files.proofs.splitting.split_all.Given as goal

abbrev pub invariant-loop-stream : goal.invariant-loop-stream
invariant-loop-stream g l = record {
  split : HasSplit (record { folder = l.folder; heads = l.heads }) l.stream (g.S.Source.left l.initial.source) (g.S.Source.left l.source) l.ahead
      (g.M.FileMaker.made l.initial.maker) (g.M.FileMaker.made l.maker);
  blames : CountsBy no_one
      (three_counts (source_counts g.S.Source l.initial.source) (counts_of g.M.FileMaker.faults g.M.FileMaker.failed l.initial.maker) no_counts)
      (three_counts (source_counts g.S.Source l.source) (counts_of g.M.FileMaker.faults g.M.FileMaker.failed l.maker) no_counts);
}
