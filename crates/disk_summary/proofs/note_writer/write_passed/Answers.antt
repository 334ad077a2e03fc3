use Rattle.std.proofs.Common.{arith, subst}
use Rattle.std.specs.Io.KnownBytes.{Appends}
use Rattle.flux_base.specs.Outside.{AppendsPart}
use Rattle.flux_base.specs.lemmas.Counting.{Counts-then}
use Rattle.disk_summary.proofs.Lists.{items-all, items-stop}
use Rattle.disk_summary.proofs.Tracks.{passed-is, passed_text}
use Rattle.disk_summary.proofs.note_writer.write_passed.Goals as goal

pub returns-in-Err : goal.returns-in-Err
returns-in-Err g c = record {
  ok = tt;
  err = subst (AppendsPart (g.N.Sink.written c.args.notes.now) (g.N.Sink.written c.write_line.new.sink)) (passed-is c.args.track c.args.passed.now)
      (items-stop (passed_text c.args.track) c.args.passed.now c.loop-number.number _ (g.N.Sink.written c.args.notes.now) (g.N.Sink.written c.loop-number.notes)
      (g.N.Sink.written c.write_line.new.sink) (omega arith) c.note_piece.result.bytes c.note_piece.ensures c.loop-number.invariant.grew c.in-Err.ensures.err);
  counts = Counts-then _ c.loop-number.invariant.counts c.in-Err.ensures.counts;
}

pub returns : goal.returns
returns g c = record {
  ok = subst (Appends (g.N.Sink.written c.args.notes.now) (g.N.Sink.written c.loop-number.notes)) (passed-is c.args.track c.args.passed.now)
      (items-all (passed_text c.args.track) c.args.passed.now c.loop-number.number (g.N.Sink.written c.args.notes.now) (g.N.Sink.written c.loop-number.notes)
      (omega arith) c.loop-number.invariant.grew);
  err = tt;
  counts = c.loop-number.invariant.counts;
}
