use Rattle.std.proofs.Common.{sym, subst}
use Rattle.std.specs.Io.KnownBytes.{Appends}
use Rattle.flux_base.specs.Outside.{AppendsPart}
use Rattle.flux_base.specs.lemmas.Counting.{Counts-then}
use Rattle.name_book.specs.Book.{told_at}
use Rattle.name_book.specs.Names.{NameTold}
use Rattle.imd_records.specs.Records.{sector_bytes}
use Rattle.imd_records.proofs.Records.{flat_map_map, items-all, items-stop, row_known}
use Rattle.imd_records.proofs.record.write_sectors.Goals as goal

pub write_sector-requires : goal.write_sector-requires
write_sector-requires g c = row_known c.args.book.now c.args.rows.now c.loop-index.index c.requires c.loop-index-test.true

pub returns-in-Err : goal.returns-in-Err
returns-in-Err g c = record {
  ok = tt;
  err = subst (AppendsPart (g.W.Sink.written c.args.file.now) (g.W.Sink.written c.write_sector.new.file))
      (sym (flat_map_map (λ (told : NameTold). sector_bytes told.agreed) (told_at c.args.book.now) c.args.rows.now))
      (items-stop (λ row. sector_bytes (told_at c.args.book.now row).agreed) c.args.rows.now c.loop-index.index 0 (g.W.Sink.written c.args.file.now) (g.W.Sink.written c.loop-index.file)
      (g.W.Sink.written c.write_sector.new.file) c.loop-index-test.true c.loop-index.invariant.grew c.in-Err.ensures.err);
  counts = Counts-then _ c.loop-index.invariant.counts c.in-Err.ensures.counts;
}

pub returns : goal.returns
returns g c = record {
  ok = subst (Appends (g.W.Sink.written c.args.file.now) (g.W.Sink.written c.loop-index.file))
      (sym (flat_map_map (λ (told : NameTold). sector_bytes told.agreed) (told_at c.args.book.now) c.args.rows.now))
      (items-all (λ row. sector_bytes (told_at c.args.book.now row).agreed) c.args.rows.now c.loop-index.index (g.W.Sink.written c.args.file.now) (g.W.Sink.written c.loop-index.file)
      c.loop-index-test.false c.loop-index.invariant.grew);
  err = tt;
  counts = c.loop-index.invariant.counts;
}
