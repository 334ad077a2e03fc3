use Rattle.std.proofs.Common.{arith}
use Rattle.flux_base.specs.lemmas.Counting.{Counts-then}
use Rattle.dump_reading.proofs.Lists.{name-all, name-stop}
use Rattle.dump_reading.proofs.report.write_names.Goals as goal

pub returns-in-Err : goal.returns-in-Err
returns-in-Err g c = record {
  ok = tt;
  err = name-stop c.args.track c.args.told.now c.loop-number.number (g.N.Sink.written c.args.notes.now) (g.N.Sink.written c.loop-number.notes)
      (g.N.Sink.written c.write_if.new.notes) _ c.has_data.result c.other_line.result.bytes (omega arith) c.has_data.ensures c.other_line.ensures
      c.loop-number.invariant.grew c.in-Err.ensures.err;
  counts = Counts-then _ c.loop-number.invariant.counts c.in-Err.ensures.counts;
}

pub returns : goal.returns
returns g c = record {
  ok = name-all c.args.track c.args.told.now c.loop-number.number (g.N.Sink.written c.args.notes.now) (g.N.Sink.written c.loop-number.notes)
      (omega arith) c.loop-number.invariant.grew;
  err = tt;
  counts = c.loop-number.invariant.counts;
}
