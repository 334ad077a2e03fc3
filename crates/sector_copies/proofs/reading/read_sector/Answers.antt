use Rattle.std.proofs.Common.{ap, arith, length, refl, subst}
use Rattle.sector_images.specs.declared.format.Format.{Format}
use Rattle.dump_reading.specs.Files.{shelf_at}
use Rattle.dump_reading.specs.Outcomes.{disk_of}
use Rattle.sector_copies.specs.inside.TrackReadings.{HasReadNext}
use Rattle.sector_copies.proofs.Streams.{read_none, reads_on, same_room_on}
use Rattle.sector_copies.proofs.reading.read_sector.Goals as goal

pub loop-capture-init : goal.loop-capture-init
loop-capture-init g c = record {
  read = read_none (disk_of c.args.dumps.now c.args.room.now.format) c.args.room.now.number c.args.room.now.known.sector
      (shelf_at g.H.Source g.H.Shelf c.args.shelf.now)
      c.args.room.now.known c.args.room.now.passed c.requires.none c.requires.no_passed;
  same = record { format = refl; number = refl; sector = refl };
  few = (let none = c.requires.none.book.notes in omega (arith, none));
  passed = (let none = ap length c.requires.no_passed in omega (arith, none));
}

pub loop-capture-preserved : goal.loop-capture-preserved
loop-capture-preserved g c =
    let disk = disk_of c.args.dumps.now c.args.room.now.format in
    let at = c.loop-capture in
    let inv = at.invariant in
    let start = shelf_at g.H.Source g.H.Shelf c.args.shelf.now in
    let now = shelf_at g.H.Source g.H.Shelf at.shelf in
    let next = shelf_at g.H.Source g.H.Shelf c.read_next.new.shelf in
    record {
      read = reads_on disk c.args.room.now.number c.args.room.now.known.sector at.capture start now next at.room c.read_next.new.room c.loop-capture-test.true inv.same.number inv.same.sector inv.read
          (subst (λ (f : Format). HasReadNext (disk_of c.args.dumps.now f) at.room.number at.capture now next at.room c.read_next.new.room) inv.same.format c.read_next.ensures.read);
      same = same_room_on c.args.room.now at.room c.read_next.new.room inv.same c.read_next.ensures.same;
      few = (let before = inv.few in let more = c.read_next.ensures.few in omega (arith, before, more));
      passed = (let before = inv.passed in let more = c.read_next.ensures.passed in omega (arith, before, more));
    }
