use Rattle.dump_identity.proofs.Held.{is-held}
use Rattle.dump_identity.proofs.reading.has_files.Goals as goal

pub returns : goal.returns
returns g c =
    is-held c.args.dump.now (g.H.Shelf.files c.args.shelf.now) c.args.disk.now c.find_empty.result c.is_none.result c.is_none.ensures c.from_ref.result.now c.stepping.result c.format.result
    c.from_ref.ensures.value c.stepping.ensures c.format.ensures c.find_empty.ensures.told c.find_empty.ensures.bound
