use Rattle.std.proofs.Common.{Err, Ok, refl, subst}
use Rattle.flux_writer.specs.Trailing.{stream_of_capture}
use Rattle.index_turns.specs.Track.{TrackState}
use Rattle.scp_unpack.specs.Tracks.{stream_by}
use Rattle.scp_unpack.specs.inside.Came.{MakesTrack, came_read}
use Rattle.scp_unpack.proofs.One.{cut-one, made-one, part-one, told-one}
use Rattle.scp_unpack.proofs.unpacking.unpack_track.Goals as goal

pub returns-in-Err-make_track-clause-track : goal.returns-in-Err-make_track-clause-track
returns-in-Err-make_track-clause-track g c =
    let flux = c.read_came.new.capture.flux in
    let read = c.in-Ok.read in
    let number = c.args.place.number in
    let bytes = stream_of_capture flux.times flux.indexes in
    let made = g.M.FileMaker.made c.args.maker.now in
    let made' = g.M.FileMaker.made c.make_track.new.maker in
    let failed = c.in-Err-make_track.field-0 in
    let cut = cut-one c.args.folder.now number bytes read.refusal made made' failed
    (subst (λ (f : TrackState). MakesTrack c.args.folder.now number (stream_by read.refusal (stream_of_capture f.times f.indexes)) made made' (Err failed))
    c.flux.ensures c.in-Err-make_track.ensures.made) in
    (refl, came_read number flux read, c.in-Ok.ensures.is, bytes, cut.0, failed, cut.1, refl)

pub returns-in-Ok-tell_track-clause-track : goal.returns-in-Ok-tell_track-clause-track
returns-in-Ok-tell_track-clause-track g c =
    let flux = c.read_came.new.capture.flux in
    let read = c.in-Ok.read in
    let number = c.args.place.number in
    let bytes = stream_of_capture flux.times flux.indexes in
    let made = g.M.FileMaker.made c.args.maker.now in
    let made' = g.M.FileMaker.made c.make_track.new.maker in
    let u = c.in-Ok-make_track.field-0 in (
      came_read number flux read,
      c.in-Ok.ensures.is,
      c.counted.ensures.is c.args.folder.now number flux,
      made-one c.args.folder.now number bytes read.refusal read.told made made' u
          (subst (λ (f : TrackState). MakesTrack c.args.folder.now number (stream_by read.refusal (stream_of_capture f.times f.indexes)) made made' (Ok u))
          c.flux.ensures c.in-Ok-make_track.ensures.made),
      told-one _ _ _ c.in-Ok-tell_track.ensures.ok,
    )

pub returns-in-Err-tell_track-clause-track : goal.returns-in-Err-tell_track-clause-track
returns-in-Err-tell_track-clause-track g c =
    let flux = c.read_came.new.capture.flux in
    let read = c.in-Ok.read in
    let number = c.args.place.number in
    let bytes = stream_of_capture flux.times flux.indexes in
    let made = g.M.FileMaker.made c.args.maker.now in
    let made' = g.M.FileMaker.made c.make_track.new.maker in
    let u = c.in-Ok-make_track.field-0 in (
      came_read number flux read,
      c.in-Ok.ensures.is,
      made-one c.args.folder.now number bytes read.refusal read.told made made' u
          (subst (λ (f : TrackState). MakesTrack c.args.folder.now number (stream_by read.refusal (stream_of_capture f.times f.indexes)) made made' (Ok u))
          c.flux.ensures c.in-Ok-make_track.ensures.made),
      part-one _ _ _ c.in-Err-tell_track.ensures.err,
    )
