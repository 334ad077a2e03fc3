use Rattle.std.specs.Prelude.{◌≡◌, not, is_err, Some}
use Rattle.std.proofs.Common.{ap, sym, ◌∙◌}
use Rattle.disk_map.specs.Dumps.{dumps_part_with}
use Rattle.disk_summary.specs.Dumps.{noted_track}
use Rattle.flux_engine.specs.Tracks.{track_notes}
use Rattle.disk_archive.proofs.Fitting.{fits, not-full, part-fits}
use Rattle.disk_archive.proofs.kept_writer.draw_track.Goals as goal

pub returns-then-second : goal.returns-then-second
returns-then-second c = λ readings others stands stand sound. absurd (not-full c.args.second.now.full c.if-second.true sound)

pub returns : goal.returns
returns c = λ readings others stands stand sound.
    let failed : c.is_err-second.result ≡ is_err c.write_track-drawn.result = c.is_err-second.ensures.value in (
      fits c.args.second.now.full c.if-second.false,
      part-fits (dumps_part_with noted_track c.args.format c.args.track (track_notes readings c.args.gathered.now.passed.items others))
          (Some c.args.second.now.picture.written) (Some c.write_track-drawn.new.image.written) (Some c.args.second.now.notes.written) (Some c.write_track-drawn.new.notes.written)
          c.write_track-drawn.result (sym (ap not failed) ∙ sound) (c.write_track-drawn.ensures.wrote readings others stands stand),
    )
