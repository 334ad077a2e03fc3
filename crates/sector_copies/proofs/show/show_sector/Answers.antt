use Rattle.std.specs.Prelude.{refl}
use Rattle.std.proofs.Common.{false, true}
use Rattle.flux_base.specs.lemmas.Blaming.{CountsBy-image, CountsBy-notes, CountsBy-then}
use Rattle.dump_reading.specs.Files.{shelf_at}
use Rattle.dump_reading.specs.Outcomes.{disk_of}
use Rattle.sector_copies.proofs.Showing.{says_cut_image, says_cut_notes, says_shown}
use Rattle.sector_copies.proofs.show.show_sector.Goals as goal

pub returns-in-Ok-write_image-clause-says : goal.returns-in-Ok-write_image-clause-says
returns-in-Ok-write_image-clause-says g c =
    says_shown (disk_of c.args.dumps.now c.args.room.now.format) c.args.alone
    (shelf_at g.H.Source g.H.Shelf c.args.shelf.now)
    (shelf_at g.H.Source g.H.Shelf c.read_sector.new.shelf)
    c.args.room.now c.read_sector.new.room c.verdict-outcome.result c.read_sector.ensures.same refl c.read_sector.ensures.read c.verdict-outcome.ensures
    (rw (c.format.ensures, c.in-None.is) at c.find_empty.ensures.told)
    (g.W.Sink.written c.args.image.now) (g.W.Sink.written c.write_image.new.image) (g.N.Sink.written c.args.notes.now) (g.N.Sink.written c.write_notes.new.notes)
    c.totals_of.result c.totals_of.ensures c.in-Ok.ensures.ok c.in-Ok-write_image.ensures.ok

pub returns-in-Err-write_image-clause-says : goal.returns-in-Err-write_image-clause-says
returns-in-Err-write_image-clause-says g c =
    says_cut_image (disk_of c.args.dumps.now c.args.room.now.format) c.args.alone
    (shelf_at g.H.Source g.H.Shelf c.args.shelf.now)
    (shelf_at g.H.Source g.H.Shelf c.read_sector.new.shelf)
    c.args.room.now c.read_sector.new.room c.verdict-outcome.result c.read_sector.ensures.same refl c.read_sector.ensures.read c.verdict-outcome.ensures
    (rw (c.format.ensures, c.in-None.is) at c.find_empty.ensures.told)
    (g.W.Sink.written c.args.image.now) (g.W.Sink.written c.write_image.new.image) (g.N.Sink.written c.args.notes.now) (g.N.Sink.written c.write_notes.new.notes)
    c.in-Ok.ensures.ok c.in-Err-write_image.ensures.err

pub returns-in-Err-clause-says : goal.returns-in-Err-clause-says
returns-in-Err-clause-says g c =
    says_cut_notes (disk_of c.args.dumps.now c.args.room.now.format) c.args.alone
    (shelf_at g.H.Source g.H.Shelf c.args.shelf.now)
    (shelf_at g.H.Source g.H.Shelf c.read_sector.new.shelf)
    c.args.room.now c.read_sector.new.room c.verdict-outcome.result c.read_sector.ensures.same refl c.read_sector.ensures.read c.verdict-outcome.ensures
    (rw (c.format.ensures, c.in-None.is) at c.find_empty.ensures.told)
    (g.W.Sink.written c.args.image.now) (g.W.Sink.written c.args.image.now) (g.N.Sink.written c.args.notes.now) (g.N.Sink.written c.write_notes.new.notes)
    refl c.in-Err.ensures.err

pub returns-in-Err-clause-blames : goal.returns-in-Err-clause-blames
returns-in-Err-clause-blames g c = CountsBy-notes _ _ true c.in-Err.ensures.counts

pub returns-in-Ok-write_image-clause-blames : goal.returns-in-Ok-write_image-clause-blames
returns-in-Ok-write_image-clause-blames g c =
    CountsBy-then _ (CountsBy-notes _ _ false c.in-Ok.ensures.counts) (CountsBy-image _ _ false c.in-Ok-write_image.ensures.counts)

pub returns-in-Err-write_image-clause-blames : goal.returns-in-Err-write_image-clause-blames
returns-in-Err-write_image-clause-blames g c =
    CountsBy-then _ (CountsBy-notes _ _ false c.in-Ok.ensures.counts) (CountsBy-image _ _ true c.in-Err-write_image.ensures.counts)
