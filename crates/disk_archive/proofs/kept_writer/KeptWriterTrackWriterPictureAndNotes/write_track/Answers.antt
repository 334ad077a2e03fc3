use Rattle.disk_archive.proofs.kept_writer.KeptWriterTrackWriterPictureAndNotes.write_track.Goals as goal

pub returns-in-Ok-clause-second : goal.returns-in-Ok-clause-second
returns-in-Ok-clause-second g c = λ readings others stands stand sound.
    let drew = c.draw_track.ensures readings others stands stand sound in
    let wrote = c.in-Ok.ensures.wrote readings others stands stand in
    (drew.0, (drew.1.0, drew.1.1, wrote.2))
