use Rattle.std.proofs.Common.{sym, subst}
use Rattle.std.specs.Io.KnownBytes.{Appends}
use Rattle.flux_base.specs.Outside.{AppendsPart}
use Rattle.flux_base.specs.lemmas.Counting.{Counts-then}
use Rattle.name_book.specs.Book.{told_at}
use Rattle.imd_image.specs.Lines.{lost_part}
use Rattle.imd_image.proofs.Counting.{row_known}
use Rattle.imd_image.proofs.Pieces.{flat_map_map, items-all, items-stop}
use Rattle.imd_image.proofs.telling.write_lost.Goals as goal

pub write_if_lost-requires : goal.write_if_lost-requires
write_if_lost-requires g c = row_known c.args.book.now c.args.rows.now c.loop-index.index c.requires c.loop-index-test.true

pub returns-in-Err : goal.returns-in-Err
returns-in-Err g c = record {
  ok = tt;
  err = subst (AppendsPart (g.N.Sink.written c.args.notes.now) (g.N.Sink.written c.write_if_lost.new.notes))
      (sym (flat_map_map (lost_part c.args.track) (told_at c.args.book.now) c.args.rows.now))
      (items-stop (λ row. lost_part c.args.track (told_at c.args.book.now row)) c.args.rows.now c.loop-index.index 0 (g.N.Sink.written c.args.notes.now)
      (g.N.Sink.written c.loop-index.notes) (g.N.Sink.written c.write_if_lost.new.notes) c.loop-index-test.true c.loop-index.invariant.grew c.in-Err.ensures.err);
  counts = Counts-then _ c.loop-index.invariant.counts c.in-Err.ensures.counts;
}

pub returns : goal.returns
returns g c = record {
  ok = subst (Appends (g.N.Sink.written c.args.notes.now) (g.N.Sink.written c.loop-index.notes))
      (sym (flat_map_map (lost_part c.args.track) (told_at c.args.book.now) c.args.rows.now))
      (items-all (λ row. lost_part c.args.track (told_at c.args.book.now row)) c.args.rows.now c.loop-index.index (g.N.Sink.written c.args.notes.now)
      (g.N.Sink.written c.loop-index.notes) c.loop-index-test.false c.loop-index.invariant.grew);
  err = tt;
  counts = c.loop-index.invariant.counts;
}
