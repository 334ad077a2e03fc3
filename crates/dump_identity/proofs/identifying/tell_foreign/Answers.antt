use Rattle.flux_base.specs.lemmas.Counting.{Counts-none, Counts-then}
use Rattle.std.proofs.KnownBytes.{Appends-nil}
use Rattle.dump_identity.proofs.Tellings.{foreign-all, foreign-cut, foreign-more}
use Rattle.dump_identity.proofs.identifying.tell_foreign.Goals as goal

pub loop-number-init : goal.loop-number-init
loop-number-init g c = record { grew = Appends-nil _; counts = Counts-none _ }

pub loop-number-preserved : goal.loop-number-preserved
loop-number-preserved g c =
    let at = c.loop-number in record {
      grew = foreign-more c.args.foreign.now at.number _ c.loop-number-test.true
          (g.W.Sink.written c.args.lines.now) (g.W.Sink.written at.lines) (g.W.Sink.written c.write_line.new.sink) at.invariant.grew (rw c.foreign_line.ensures at c.in-Ok.ensures.ok);
      counts = Counts-then _ at.invariant.counts c.in-Ok.ensures.counts;
    }

pub returns-in-Err : goal.returns-in-Err
returns-in-Err g c =
    let at = c.loop-number in record {
      ok = tt;
      err = foreign-cut c.args.foreign.now at.number _ c.loop-number-test.true
          (g.W.Sink.written c.args.lines.now) (g.W.Sink.written at.lines) (g.W.Sink.written c.write_line.new.sink) at.invariant.grew (rw c.foreign_line.ensures at c.in-Err.ensures.err);
      counts = Counts-then _ at.invariant.counts c.in-Err.ensures.counts;
    }

pub returns : goal.returns
returns g c =
    let at = c.loop-number in record {
      ok = foreign-all c.args.foreign.now at.number c.loop-number-test.false (g.W.Sink.written c.args.lines.now) (g.W.Sink.written at.lines) at.invariant.grew;
      err = tt;
      counts = at.invariant.counts;
    }
