use Rattle.flux_base.specs.lemmas.Counting.{Counts-then}
use Rattle.scp_notes.specs.Lines.{early_text}
use Rattle.scp_notes.proofs.Pieces.{items-next, items-stop}
use Rattle.scp_notes.proofs.lines.write_ends.Goals as goal

pub returns-in-Err : goal.returns-in-Err
returns-in-Err g c = record {
  ok = tt;
  err = items-stop (early_text c.args.dump) c.args.ends.now c.loop-end.end-index _ (g.N.Sink.written c.args.sink.now) (g.N.Sink.written c.loop-end.sink)
      (g.N.Sink.written c.write_line.new.sink) c.loop-end-test.true c.loop-end.invariant.grew (rw c.early_line.ensures at c.in-Err.ensures.err);
  counts = Counts-then _ c.loop-end.invariant.counts c.in-Err.ensures.counts;
}

pub loop-end-preserved : goal.loop-end-preserved
loop-end-preserved g c = record {
  grew = items-next (early_text c.args.dump) c.args.ends.now c.loop-end.end-index _ (g.N.Sink.written c.args.sink.now) (g.N.Sink.written c.loop-end.sink)
      (g.N.Sink.written c.write_line.new.sink) c.loop-end-test.true c.loop-end.invariant.grew (rw c.early_line.ensures at c.in-Ok.ensures.ok);
  counts = Counts-then _ c.loop-end.invariant.counts c.in-Ok.ensures.counts;
}
