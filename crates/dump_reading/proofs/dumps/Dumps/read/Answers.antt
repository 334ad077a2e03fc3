use Rattle.std.proofs.Common.{refl}
use Rattle.dump_reading.specs.Files.{shelf_at}
use Rattle.dump_reading.proofs.NextStreams.{item-none, item-some, none-gave, read-gave}
use Rattle.dump_reading.proofs.dumps.Dumps.read.Goals as goal

pub returns-in-Some-clause-gave : goal.returns-in-Some-clause-gave
returns-in-Some-clause-gave g c =
    let names = c.args.self.now.names.now in
    let look = c.in-Some.ensures.lookup in
    let here = item-some names c.from.result c.args.dump c.in-Some.name.now c.from.ensures look.3.0 look.1 in
    read-gave c.args.self.now.stepping names c.args.track c.args.dump
    (shelf_at g.H.Source g.H.Shelf c.args.shelf.now)
    (shelf_at g.H.Source g.H.Shelf c.read_dump.new.shelf)
    c.read_dump.result c.read_dump.new.stream.flux c.in-Some.name.now here
    (rw (c.bytes.ensures, c.file_track-track.ensures) at c.read_dump.ensures.seen) (rw (c.bytes.ensures, c.file_track-track.ensures) at c.read_dump.ensures.told) c.read_dump.ensures.counts

pub returns-in-None-clause-gave : goal.returns-in-None-clause-gave
returns-in-None-clause-gave g c =
    let names = c.args.self.now.names.now in
    let past = rw c.from.ensures at c.in-None.ensures.lookup.3 in
    none-gave c.args.self.now.stepping names c.args.track c.args.dump _ _ (item-none names c.args.dump past) refl
