use Rattle.std.proofs.Common.{length}
use Rattle.kryo_stream.specs.Reads.{reads_at}
use Rattle.sector_images.specs.Places.{tracks}
use Rattle.flux_engine.proofs.CountedStreams.{all-uncounted, and-sinks, ends-uncounted, source-counts}
use Rattle.flux_engine.proofs.SourceLoop.{all_needed, ends_loop, has_planned_all}
use Rattle.flux_engine.proofs.planned.decode_planned_tracks.Goals as goal
use Rattle.flux_base.specs.World.{source_counts}

pub returns-clause-ok : goal.returns-clause-ok
returns-clause-ok g c =
    let of = g.O.TrackWriter.part_of c.args.writer.now in
    let format = c.args.room.now.format in
    let start = reads_at g.S.Source c.args.source.now in
    let now = reads_at g.S.Source c.decode_tracks.new.source in
    has_planned_all c.args.plan of format start now _ _ _ _ c.decode_tracks.new.room c.decode_tracks.new.totals c.decode_tracks.result
    (all-uncounted c.args.plan of format start now _ _ _ _ _ _ c.decode_tracks.new.room (length (tracks format)) c.decode_tracks.new.totals c.decode_tracks.result c.decode_tracks.ensures.ok)

pub returns-clause-needed : goal.returns-clause-needed
returns-clause-needed g c =
    let of = g.O.TrackWriter.part_of c.args.writer.now in
    let format = c.args.room.now.format in
    let start = reads_at g.S.Source c.args.source.now in
    let now = reads_at g.S.Source c.decode_tracks.new.source in
    all_needed c.args.plan of format start now _ _ _ _ c.decode_tracks.new.room c.decode_tracks.new.totals c.decode_tracks.result
    (all-uncounted c.args.plan of format start now _ _ _ _ _ _ c.decode_tracks.new.room (length (tracks format)) c.decode_tracks.new.totals c.decode_tracks.result c.decode_tracks.ensures.ok)
    (ends-uncounted c.args.plan of format start now _ _ _ _ _ _ c.decode_tracks.new.room c.decode_tracks.new.totals c.decode_tracks.result c.decode_tracks.ensures.err)

pub returns-clause-err : goal.returns-clause-err
returns-clause-err g c =
    let of = g.O.TrackWriter.part_of c.args.writer.now in
    let format = c.args.room.now.format in
    let start = reads_at g.S.Source c.args.source.now in
    let now = reads_at g.S.Source c.decode_tracks.new.source in
    ends_loop c.args.plan of format start now _ _ _ _ c.decode_tracks.new.room c.growth_law.ensures.limit c.padding_law.ensures c.decode_tracks.new.totals c.decode_tracks.result
    (ends-uncounted c.args.plan of format start now _ _ _ _ _ _ c.decode_tracks.new.room c.decode_tracks.new.totals c.decode_tracks.result c.decode_tracks.ensures.err)

pub returns-clause-blames : goal.returns-clause-blames
returns-clause-blames g c =
    let of = g.O.TrackWriter.part_of c.args.writer.now in
    let format = c.args.room.now.format in
    let start = reads_at g.S.Source c.args.source.now in
    let now = reads_at g.S.Source c.decode_tracks.new.source in
    and-sinks c.decode_tracks.result
    (source-counts c.args.plan of format start now (source_counts g.S.Source c.args.source.now) (source_counts g.S.Source c.decode_tracks.new.source)
    _ _ _ _ c.decode_tracks.new.room (length (tracks format)) c.decode_tracks.new.totals c.decode_tracks.result c.decode_tracks.ensures.ok c.decode_tracks.ensures.err)
    c.decode_tracks.ensures.blames
