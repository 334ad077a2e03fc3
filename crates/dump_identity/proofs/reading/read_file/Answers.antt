use Rattle.dump_reading.specs.Files.{shelf_at}
use Rattle.dump_identity.proofs.ReadSteps.{has-read}
use Rattle.dump_identity.proofs.reading.read_file.Goals as goal

pub returns-clause-read : goal.returns-clause-read
returns-clause-read g c =
    has-read c.args.dump.now c.args.number (shelf_at g.H.Source g.H.Shelf c.args.shelf.now) (shelf_at g.H.Source g.H.Shelf c.take.new.source) c.args.disks.now c.note_file.new.disks
    c.args.passed.now.items c.push_reserved.new.self.items c.file_track-file.result c.take.new.self c.note_file.new.stream c.from_ref.result.now c.passed.result c.from_ref.ensures.value
    c.take.ensures.gave c.take.ensures.whole c.file_track-file.ensures c.passed.ensures c.push_reserved.ensures.items c.note_file.ensures.noted c.note_file.ensures.stream
