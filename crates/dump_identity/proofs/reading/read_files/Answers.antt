use Rattle.std.proofs.Common.{◌≤◌, ◌∷◌, ◌++◌, ℕ, [], sym, subst}
use Rattle.dump_reading.specs.Files.{shelf_at}
use Rattle.dump_identity.proofs.ReadSteps.{noted-many, read-more, read-none, room-more}
use Rattle.dump_identity.proofs.reading.read_files.Goals as goal

pub loop-number-init : goal.loop-number-init
loop-number-init g c = record {
  read = ([], read-none c.args.dump.now (shelf_at g.H.Source g.H.Shelf c.args.shelf.now) c.args.disks.now c.args.passed.now.items c.requires.none c.requires.fresh, c.requires.unnoted);
  room = c.requires.room;
}

pub loop-number-preserved : goal.loop-number-preserved
loop-number-preserved g c =
    let at = c.loop-number in
    let here = c.read_file.new.stream in
    let came = at.invariant.read.0 in
    record {
      read = (
        came ++ here ∷ [],
        read-more c.args.dump.now (shelf_at g.H.Source g.H.Shelf c.args.shelf.now) c.args.disks.now (shelf_at g.H.Source g.H.Shelf at.shelf) (shelf_at g.H.Source g.H.Shelf c.read_file.new.shelf)
            at.disks c.read_file.new.disks at.passed.items c.read_file.new.passed.items at.number came here at.invariant.read.1 c.read_file.ensures.read,
        c.note_file.ensures.noted came at.invariant.read.2,
      );
      room = subst (λ (n : ℕ). 200 ≤ n) (sym c.read_file.ensures.capacity) at.invariant.room;
    }

pub read_file-requires-clause-room : goal.read_file-requires-clause-room
read_file-requires-clause-room g c =
    let at = c.loop-number in
    room-more c.args.dump.now (shelf_at g.H.Source g.H.Shelf c.args.shelf.now) c.args.disks.now (shelf_at g.H.Source g.H.Shelf at.shelf) at.disks at.passed.items at.number at.invariant.read.0
    at.invariant.read.1 _ c.loop-number-test.true at.invariant.room

pub read_file-requires-clause-many : goal.read_file-requires-clause-many
read_file-requires-clause-many g c =
    let at = c.loop-number in
    noted-many c.args.dump.now (shelf_at g.H.Source g.H.Shelf c.args.shelf.now) c.args.disks.now (shelf_at g.H.Source g.H.Shelf at.shelf) at.disks at.passed.items at.number at.invariant.read.0
    at.invariant.read.1
