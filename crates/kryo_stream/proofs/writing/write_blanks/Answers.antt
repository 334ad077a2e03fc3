use Rattle.std.proofs.Common.{◌≡◌, ◌-◌, take, arith, subst}
use Rattle.std.proofs.lemmas.List.{take-replicate}
use Rattle.std.proofs.Math.ListN.{replicate}
use Rattle.std.specs.Io.KnownBytes.{Appends}
use Rattle.flux_base.specs.Outside.{AppendsPart}
use Rattle.flux_base.specs.lemmas.Counting.{Counts-then}
use Rattle.kryo_stream.proofs.WritingLemmas.{Appends-more, AppendsPart-more}
use Rattle.kryo_stream.proofs.writing.write_blanks.Goals as goal

pub loop-rest-preserved : goal.loop-rest-preserved
loop-rest-preserved g c =
    let piece : take c.min-piece.result (replicate 256 32) ≡ replicate c.min-piece.result 32 =
    take-replicate c.min-piece.result 256 32 (omega arith) in
    record {
      within = omega arith;
      appended = Appends-more _ _ _ (c.args.count - c.loop-rest.rest) c.min-piece.result _ 32
          c.loop-rest.invariant.appended (subst (Appends (g.W.Sink.written c.loop-rest.sink) (g.W.Sink.written c.write_whole.new.sink)) piece c.in-Ok.ensures.ok) (omega arith);
      counts = Counts-then _ c.loop-rest.invariant.counts c.in-Ok.ensures.counts;
    }

pub returns-in-Err : goal.returns-in-Err
returns-in-Err g c =
    let piece : take c.min-piece.result (replicate 256 32) ≡ replicate c.min-piece.result 32 =
    take-replicate c.min-piece.result 256 32 (omega arith) in
    record {
      ok = tt;
      err = AppendsPart-more _ _ _ (c.args.count - c.loop-rest.rest) c.min-piece.result _ 32 c.loop-rest.invariant.appended
          (subst (AppendsPart (g.W.Sink.written c.loop-rest.sink) (g.W.Sink.written c.write_whole.new.sink)) piece c.in-Err.ensures.err) (omega arith);
      counts = Counts-then _ c.loop-rest.invariant.counts c.in-Err.ensures.counts;
    }
