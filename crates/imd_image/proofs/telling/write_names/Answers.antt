use Rattle.std.proofs.Common.{◌≡◌, ◌+◌, ℕ, ap, arith, length}
use Rattle.flux_base.specs.lemmas.Counting.{Counts-then}
use Rattle.flux_engine.specs.lemmas.Pieces.{pieces_next, pieces_stop}
use Rattle.imd_image.specs.Lines.{left_part}
use Rattle.imd_image.proofs.telling.write_names.Goals as goal

pub returns-in-Err : goal.returns-in-Err
returns-in-Err g c =
    let text = left_part c.args.track c.args.mode c.args.book.now c.args.rows.now in
    let number = c.loop-number.number in
    let at : number ≡ 0 + number = omega arith in record {
      ok = tt;
      err = pieces_stop text (g.N.Sink.written c.args.notes.now) (g.N.Sink.written c.loop-number.notes) (g.N.Sink.written c.write_if_left.new.notes) 0 number
          (length c.args.book.now.told) (text number) (omega (arith, c.loop-number-test.true, c.count-number-end.ensures)) (ap text at) c.loop-number.invariant.grew
          c.in-Err.ensures.err;
      counts = Counts-then _ c.loop-number.invariant.counts c.in-Err.ensures.counts;
    }

pub loop-number-preserved : goal.loop-number-preserved
loop-number-preserved g c =
    let text = left_part c.args.track c.args.mode c.args.book.now c.args.rows.now in
    let number = c.loop-number.number in
    let at : number ≡ 0 + number = omega arith in record {
      grew = pieces_next text (g.N.Sink.written c.args.notes.now) (g.N.Sink.written c.loop-number.notes) (g.N.Sink.written c.write_if_left.new.notes) 0 number (text number)
          (ap text at) c.loop-number.invariant.grew c.in-Ok.ensures.ok;
      counts = Counts-then _ c.loop-number.invariant.counts c.in-Ok.ensures.counts;
    }
