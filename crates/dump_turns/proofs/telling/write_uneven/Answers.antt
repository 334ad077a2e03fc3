use Rattle.std.proofs.Common.{arith, length}
use Rattle.flux_base.specs.lemmas.Counting.{Counts-then}
use Rattle.flux_engine.specs.lemmas.Pieces.{pieces_next, pieces_stop}
use Rattle.dump_turns.specs.Lines.{uneven_at}
use Rattle.dump_turns.proofs.Founds.{uneven-piece}
use Rattle.dump_turns.proofs.telling.write_uneven.Goals as goal

pub returns-in-Err : goal.returns-in-Err
returns-in-Err g c =
    let founds = c.args.founds.now in
    let n = c.loop-number.number in record {
      ok = tt;
      err = pieces_stop (uneven_at c.args.reach founds c.args.median) (g.W.Sink.written c.args.lines.now) (g.W.Sink.written c.loop-number.lines)
          (g.W.Sink.written c.write_if_uneven.new.lines) 0 n (length founds) _ (omega arith)
          (uneven-piece c.args.reach founds c.args.median n c.track.result c.track.ensures _ (omega arith)) c.loop-number.invariant.grew c.in-Err.ensures.err;
      counts = Counts-then _ c.loop-number.invariant.counts c.in-Err.ensures.counts;
    }

pub loop-number-preserved : goal.loop-number-preserved
loop-number-preserved g c =
    let founds = c.args.founds.now in
    let n = c.loop-number.number in record {
      grew = pieces_next (uneven_at c.args.reach founds c.args.median) (g.W.Sink.written c.args.lines.now) (g.W.Sink.written c.loop-number.lines)
          (g.W.Sink.written c.write_if_uneven.new.lines) 0 n _
          (uneven-piece c.args.reach founds c.args.median n c.track.result c.track.ensures _ (omega arith)) c.loop-number.invariant.grew c.in-Ok.ensures.ok;
      counts = Counts-then _ c.loop-number.invariant.counts c.in-Ok.ensures.counts;
    }
