use Rattle.std.proofs.Common.{◌≡◌, ◌+◌, ℕ, ap, arith, length, subst, sym}
use Rattle.std.specs.List.{flat_map, range_with_len}
use Rattle.std.specs.Io.KnownBytes.{Appends}
use Rattle.flux_base.specs.lemmas.Counting.{Counts-then}
use Rattle.flux_engine.specs.lemmas.Pieces.{pieces_next, pieces_stop}
use Rattle.sector_copies.specs.Texts.{copy_text}
use Rattle.sector_copies.proofs.printing.write_copies.Goals as goal

pub loop-number-preserved : goal.loop-number-preserved
loop-number-preserved g c = record {
  grew =
      let same : 0 + c.loop-number.number ≡ c.loop-number.number = omega arith in
      pieces_next (copy_text c.args.copies.now) (g.W.Sink.written c.args.sink.now) (g.W.Sink.written c.loop-number.sink) (g.W.Sink.written c.write_copy_at.new.sink)
      0 c.loop-number.number (copy_text c.args.copies.now c.loop-number.number) (ap (copy_text c.args.copies.now) (sym same)) c.loop-number.invariant.grew c.in-Ok.ensures.ok;
  counts = Counts-then _ c.loop-number.invariant.counts c.in-Ok.ensures.counts;
}

pub returns-in-Err : goal.returns-in-Err
returns-in-Err g c =
    let same : 0 + c.loop-number.number ≡ c.loop-number.number = omega arith in
    record {
      ok = tt;
      err = pieces_stop (copy_text c.args.copies.now) (g.W.Sink.written c.args.sink.now) (g.W.Sink.written c.loop-number.sink) (g.W.Sink.written c.write_copy_at.new.sink)
          0 c.loop-number.number (length c.args.copies.now) (copy_text c.args.copies.now c.loop-number.number) (omega arith)
          (ap (copy_text c.args.copies.now) (sym same)) c.loop-number.invariant.grew c.in-Err.ensures.err;
      counts = Counts-then _ c.loop-number.invariant.counts c.in-Err.ensures.counts;
    }

pub returns : goal.returns
returns g c =
    let all : c.loop-number.number ≡ length c.args.copies.now = omega arith in
    record {
      ok = subst (λ (n : ℕ). Appends (g.W.Sink.written c.args.sink.now) (g.W.Sink.written c.loop-number.sink) (flat_map (copy_text c.args.copies.now) (range_with_len 0 n))) all c.loop-number.invariant.grew;
      err = tt;
      counts = c.loop-number.invariant.counts;
    }
