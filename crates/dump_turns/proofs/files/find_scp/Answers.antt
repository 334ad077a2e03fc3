use Rattle.track_shelf.specs.Files.{file_at}
use Rattle.dump_reading.specs.Files.{shelf_at}
use Rattle.dump_turns.proofs.Openings.{finds-lost, finds-scp, read-sound}
use Rattle.dump_turns.proofs.files.find_scp.Goals as goal

pub returns-in-Ok-clause-found : goal.returns-in-Ok-clause-found
returns-in-Ok-clause-found g c =
    let flux = c.read_scp.new.stream.flux in
    finds-scp c.args.dump.now c.args.track (shelf_at g.H.Source g.H.Shelf c.args.shelf.now) (shelf_at g.H.Source g.H.Shelf c.read_scp.new.shelf) c.requires
    c.in-Ok.read flux c.found_of.result (read-sound c.in-Ok.read flux) c.in-Ok.ensures.told c.in-Ok.ensures.counts c.in-Ok.ensures.is (rw c.flux.ensures at c.found_of.ensures.told)
    (λ files known. (rw c.flux.ensures at c.found_of.ensures.sized) (file_at files c.args.dump.now) c.args.track (c.in-Ok.ensures.is files known))

pub returns-in-Err-clause-found : goal.returns-in-Err-clause-found
returns-in-Err-clause-found g c =
    finds-lost c.args.dump.now c.args.track (shelf_at g.H.Source g.H.Shelf c.args.shelf.now) (shelf_at g.H.Source g.H.Shelf c.read_scp.new.shelf)
    (rw (c.files_name_dumps.ensures.scp c.args.dump.now c.args.track c.requires) c.in-Err.ensures.told) c.in-Err.ensures.counts
