use Rattle.std.proofs.Common.{None, Some, refl}
use Rattle.dump_reading.specs.Files.{shelf_at}
use Rattle.dump_turns.proofs.Tellings.{all-measured, reach-told}
use Rattle.dump_turns.proofs.measured.measure_turns.Goals as goal

pub returns-in_default-clause-says : goal.returns-in_default-clause-says
returns-in_default-clause-says g c = (
  reach-told (g.H.Shelf.files c.args.shelf.now) c.args.dump.now None (rw c.bytes.ensures at c.in_default.ensures.told),
  refl,
)

pub returns-clause-says : goal.returns-clause-says
returns-clause-says g c =
    let is = reach-told (g.H.Shelf.files c.args.shelf.now) c.args.dump.now (Some c.in-Some.reach) (rw c.bytes.ensures at c.in-Some.ensures.told) in
    all-measured c.args.dump.now (shelf_at g.H.Source g.H.Shelf c.args.shelf.now) (shelf_at g.H.Source g.H.Shelf c.tell_files.new.shelf) c.in-Some.reach is c.in-Some.ensures.bound
    c.tell_files.new.founds.items c.in-Ok.ensures.found None None None c.in-Ok.ensures.written c.spread_among-spread.result (rw c.deref.ensures.value at c.spread_among-spread.ensures.is)
    c.totals-totals.result (rw c.deref-2.ensures.value at c.totals-totals.ensures)
