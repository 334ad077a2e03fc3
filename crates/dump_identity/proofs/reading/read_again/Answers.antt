use Rattle.std.proofs.Common.{refl}
use Rattle.dump_reading.specs.Files.{shelf_at}
use Rattle.dump_identity.proofs.ReadSteps.{behind-fresh, read-behind}
use Rattle.dump_identity.proofs.reading.read_again.Goals as goal

pub read_told-requires-clause-fresh : goal.read_told-requires-clause-fresh
read_told-requires-clause-fresh g c = behind-fresh c.args.place _ c.args.disks.now c.requires.fresh

pub returns : goal.returns
returns g c =
    read-behind c.args.dump.now (shelf_at g.H.Source g.H.Shelf c.args.shelf.now) (shelf_at g.H.Source g.H.Shelf c.read_told.new.shelf) c.args.place _ c.args.disks.now c.read_told.new.disks
    c.read_told.new.passed.items c.read_told.ensures.0 c.requires.place refl c.read_told.ensures.1
