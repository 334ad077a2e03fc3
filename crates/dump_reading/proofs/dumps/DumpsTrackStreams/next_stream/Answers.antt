use Rattle.std.proofs.Common.{arith}
use Rattle.flux_engine.specs.LoopProgress.{seen_next}
use Rattle.dump_reading.specs.DumpStreams.{of_disk}
use Rattle.dump_reading.specs.Files.{shelf_at}
use Rattle.dump_reading.specs.lemmas.Coming.{came-gave}
use Rattle.dump_reading.proofs.NextStreams.{track-is}
use Rattle.dump_reading.proofs.dumps.DumpsTrackStreams.next_stream.Goals as goal

pub read-requires : goal.read-requires
read-requires g c =
    let keeps = c.tracks_keep_bounds.ensures.bounds c.args.format c.track_id.result c.track_id.ensures.track in
    omega (arith, keeps.cylinder)

pub returns-clause-next : goal.returns-clause-next
returns-clause-next g c = λ plan start before few size came.
    came-gave (of_disk c.args.self.now.stepping c.args.self.now.names.now plan.captures c.args.format)
    (shelf_at g.H.Source g.H.Shelf start)
    (shelf_at g.H.Source g.H.Shelf c.args.source.now)
    before c.args.number c.args.capture few size came c.track_id.result (track-is c.args.format c.args.number c.track_id.result c.track_id.ensures.at)
    (shelf_at g.H.Source g.H.Shelf c.read.new.shelf)
    (seen_next c.read.result c.read.new.stream.flux) c.read.ensures.gave
