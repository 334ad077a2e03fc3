use Rattle.flux_base.specs.lemmas.Counting.{Counts-then}
use Rattle.kryo_stream.specs.Reads.{reads_at}
use Rattle.flux_engine.proofs.SourceLoop.{came_next, ended_next}
use Rattle.flux_engine.proofs.track_streams.OneAfterAnotherTrackStreams.next_stream.Goals as goal

pub returns-in-Ok-clause-next : goal.returns-in-Ok-clause-next
returns-in-Ok-clause-next g c = λ plan start before few size came.
    let e = c.in-Ok.ensures in (
      came_next plan c.args.format (reads_at g.S.Source start)
          (reads_at g.S.Source c.args.source.now) (reads_at g.S.Source c.read_stream.new.source)
          c.args.stream.now.held c.args.stream.now.used before c.args.number c.args.capture c.requires.track few size came.0 e.needed
          c.read_stream.new.stream.held c.read_stream.new.stream.used c.read_stream.new.stream.flux c.in-Ok.field-0 e.read e.held e.used,
      Counts-then _ came.1 e.counts,
    )

pub returns-in-Err-clause-next : goal.returns-in-Err-clause-next
returns-in-Err-clause-next g c = λ plan start before few size came.
    let e = c.in-Err.ensures in (
      ended_next plan c.args.format (reads_at g.S.Source start)
          (reads_at g.S.Source c.args.source.now) (reads_at g.S.Source c.read_stream.new.source)
          c.args.stream.now.held c.args.stream.now.used before c.args.number c.args.capture c.requires.track few size came.0 e.needed
          c.read_stream.new.stream.held c.read_stream.new.stream.flux.times c.read_stream.new.stream.flux.indexes c.in-Err.fault e.read,
      Counts-then _ came.1 e.counts,
    )
