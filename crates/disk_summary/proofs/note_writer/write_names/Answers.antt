use Rattle.std.proofs.Common.{arith, refl, subst}
use Rattle.std.specs.Io.KnownBytes.{Appends}
use Rattle.flux_base.specs.lemmas.Counting.{Counts-then}
use Rattle.disk_summary.proofs.Lists.{items-all}
use Rattle.disk_summary.proofs.Tracks.{told-is, told-next, told-stop, told_text}
use Rattle.disk_summary.proofs.note_writer.write_names.Goals as goal

pub loop-number-preserved : goal.loop-number-preserved
loop-number-preserved g c = record {
  grew = told-next c.args.track c.args.told.now c.loop-number.number (g.N.Sink.written c.args.notes.now) (g.N.Sink.written c.loop-number.notes)
      (g.N.Sink.written c.write_if.new.notes) _ c.has_data.result _ (omega arith) c.has_data.ensures refl c.loop-number.invariant.grew c.in-Ok.ensures.ok;
  counts = Counts-then _ c.loop-number.invariant.counts c.in-Ok.ensures.counts;
}

pub returns-in-Err : goal.returns-in-Err
returns-in-Err g c = record {
  ok = tt;
  err = told-stop c.args.track c.args.told.now c.loop-number.number (g.N.Sink.written c.args.notes.now) (g.N.Sink.written c.loop-number.notes)
      (g.N.Sink.written c.write_if.new.notes) _ c.has_data.result _ (omega arith) c.has_data.ensures refl c.loop-number.invariant.grew c.in-Err.ensures.err;
  counts = Counts-then _ c.loop-number.invariant.counts c.in-Err.ensures.counts;
}

pub returns : goal.returns
returns g c = record {
  ok = subst (Appends (g.N.Sink.written c.args.notes.now) (g.N.Sink.written c.loop-number.notes)) (told-is c.args.track c.args.told.now)
      (items-all (told_text c.args.track) c.args.told.now c.loop-number.number (g.N.Sink.written c.args.notes.now) (g.N.Sink.written c.loop-number.notes)
      (omega arith) c.loop-number.invariant.grew);
  err = tt;
  counts = c.loop-number.invariant.counts;
}
