use Rattle.std.proofs.Common.{◌≡◌, ◌∙◌, ℕ, List, ap, refl, subst, get_or}
use Rattle.std.proofs.KnownBytes.{Appends-trans}
use Rattle.std.specs.Io.KnownBytes.{Appends}
use Rattle.std.specs.List.{flat_map}
use Rattle.flux_base.specs.Outside.{AppendsPart}
use Rattle.flux_base.specs.lemmas.Counting.{Counts-then}
use Rattle.imd_image.specs.Lines.{file_text}
use Rattle.imd_image.proofs.Pieces.{items-next, items-stop}
use Rattle.imd_image.proofs.telling.write_passed.Goals as goal

pub returns-in-Err : goal.returns-in-Err
returns-in-Err g c = record {
  ok = tt;
  err = items-stop (file_text c.args.dumps c.args.track) c.args.passed.now c.loop-index.index _ (g.N.Sink.written c.args.notes.now) (g.N.Sink.written c.loop-index.notes)
      (g.N.Sink.written c.write_line.new.sink) c.loop-index-test.true c.loop-index.invariant.grew (rw c.file_line.ensures at c.in-Err.ensures.err);
  counts = Counts-then _ c.loop-index.invariant.counts c.in-Err.ensures.counts;
}

pub loop-index-preserved : goal.loop-index-preserved
loop-index-preserved g c = record {
  grew = items-next (file_text c.args.dumps c.args.track) c.args.passed.now c.loop-index.index _ (g.N.Sink.written c.args.notes.now) (g.N.Sink.written c.loop-index.notes)
      (g.N.Sink.written c.write_line.new.sink) c.loop-index-test.true c.loop-index.invariant.grew (rw c.file_line.ensures at c.in-Ok.ensures.ok);
  counts = Counts-then _ c.loop-index.invariant.counts c.in-Ok.ensures.counts;
}
