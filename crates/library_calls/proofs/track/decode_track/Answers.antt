use Rattle.std.proofs.Common.{ap, false, Ok, Err, sym, subst}
use Rattle.flux_engine.specs.Room.{RoomState}
use Rattle.flux_base.specs.lemmas.Blaming.{CountsBy-sinks, CountsBy-source, CountsBy-then}
use Rattle.sector_report.specs.declared.totals.Totals.{Totals}
use Rattle.library_calls.specs.Answers.{DecodesTrack}
use Rattle.flux_engine.specs.Recordings.{track_at}
use Rattle.library_calls.specs.declared.fault.EngineFault.{EngineFault}
use Rattle.flux_engine.specs.lemmas.TrackAt.{track_is}
use Rattle.library_calls.proofs.EngineBlames.{engine_cause, track_blames, track_sink_blames}
use Rattle.library_calls.proofs.Decoding.{decodes_ended, decodes_fault, from_start, still_knows}
use Rattle.library_calls.proofs.track.decode_track.Goals as goal

pub returns-in-Err-clause-decoded : goal.returns-in-Err-clause-decoded
returns-in-Err-clause-decoded g c =
    let room = c.args.room.now in
    let n = c.args.number in
    let left = g.S.Source.left c.args.source.now in
    let left' = g.S.Source.left c.read_capture.new.source in
    let held' = c.read_capture.new.room.held in
    let image = g.W.Sink.written c.args.image.now in
    let notes = g.N.Sink.written c.args.notes.now in
    subst (λ (fault : EngineFault). DecodesTrack room.format (track_at room.format n) n left left' room.used room.held held' image image notes notes (Err fault)) (sym c.of_track.ensures)
    (decodes_fault room.format (track_at room.format n) n left left' room.used room.held held' c.start_track.new.room.book c.read_capture.new.room.book image notes c.in-Err.fault
    (from_start room c.start_track.new.room n c.start_track.ensures.started left left' held' c.read_capture.new.room.book (Err c.in-Err.fault) c.in-Err.ensures.read))

pub write_part-requires-clause-known : goal.write_part-requires-clause-known
write_part-requires-clause-known g c =
    still_knows c.args.room.now c.start_track.new.room c.args.number c.start_track.ensures.started (g.S.Source.left c.args.source.now) (g.S.Source.left c.read_capture.new.source)
    c.read_capture.new.room c.in-Ok.ensures.format c.room_format-format.result c.room_format-format.ensures
    c.track_id-track.result (track_is _ c.args.number c.track_id-track.result c.track_id-track.ensures.at) _ c.room_gathered.ensures.book
    c.start_track.ensures.knows c.in-Ok.ensures.shape

pub returns-in-Ok-write_part-clause-decoded : goal.returns-in-Ok-write_part-clause-decoded
returns-in-Ok-write_part-clause-decoded g c =
    decodes_ended c.args.room.now c.start_track.new.room c.args.number c.start_track.ensures.started (g.S.Source.left c.args.source.now) (g.S.Source.left c.read_capture.new.source)
    c.read_capture.new.room c.end_track.new.room (ap (λ (r : RoomState). r.held) c.end_track.ensures) c.in-Ok.ensures.format c.room_format-format.result c.room_format-format.ensures
    c.track_id-track.result (track_is _ c.args.number c.track_id-track.result c.track_id-track.ensures.at) _ c.room_gathered.ensures.book _ _ _ _
    c.in-Ok.field-0 (Ok c.in-Ok-write_part.totals) c.in-Ok.ensures.read c.start_track.ensures.empty c.in-Ok-write_part.ensures.wrote

pub returns-in-Err-write_part-clause-decoded : goal.returns-in-Err-write_part-clause-decoded
returns-in-Err-write_part-clause-decoded g c =
    rw c.of_part.ensures
    (decodes_ended c.args.room.now c.start_track.new.room c.args.number c.start_track.ensures.started (g.S.Source.left c.args.source.now) (g.S.Source.left c.read_capture.new.source)
    c.read_capture.new.room c.end_track-in-Err-write_part.new.room (ap (λ (r : RoomState). r.held) c.end_track-in-Err-write_part.ensures) c.in-Ok.ensures.format c.room_format-format.result c.room_format-format.ensures
    c.track_id-track.result (track_is _ c.args.number c.track_id-track.result c.track_id-track.ensures.at) _ c.room_gathered.ensures.book _ _ _ _
    c.in-Ok.field-0 (Err c.in-Err-write_part.fault) c.in-Ok.ensures.read c.start_track.ensures.empty c.in-Err-write_part.ensures.wrote)

pub returns-in-Err-clause-blames : goal.returns-in-Err-clause-blames
returns-in-Err-clause-blames g c = rw c.of_track.ensures (track_blames (Unit {0}) Totals _ _ c.args.number c.in-Err.fault c.in-Err.ensures.counts)

pub returns-in-Ok-write_part-clause-blames : goal.returns-in-Ok-write_part-clause-blames
returns-in-Ok-write_part-clause-blames g c =
    CountsBy-then _ (CountsBy-source _ _ false c.in-Ok.ensures.counts) (CountsBy-sinks _ _ c.in-Ok-write_part.ensures.blames)

pub returns-in-Err-write_part-clause-blames : goal.returns-in-Err-write_part-clause-blames
returns-in-Err-write_part-clause-blames g c =
    rw c.of_part.ensures
    (CountsBy-then _ (CountsBy-source _ _ false c.in-Ok.ensures.counts)
    (track_sink_blames Totals Totals c.in-Err-write_part.fault (CountsBy-sinks _ _ c.in-Err-write_part.ensures.blames)))

pub returns-in-Ok-write_part-clause-image_later : goal.returns-in-Ok-write_part-clause-image_later
returns-in-Ok-write_part-clause-image_later g c = c.in-Ok-write_part.ensures.blames.image.later

pub returns-in-Ok-write_part-clause-notes_later : goal.returns-in-Ok-write_part-clause-notes_later
returns-in-Ok-write_part-clause-notes_later g c = c.in-Ok-write_part.ensures.blames.notes.later

pub returns-in-Err-write_part-clause-image_later : goal.returns-in-Err-write_part-clause-image_later
returns-in-Err-write_part-clause-image_later g c = c.in-Err-write_part.ensures.blames.image.later

pub returns-in-Err-write_part-clause-notes_later : goal.returns-in-Err-write_part-clause-notes_later
returns-in-Err-write_part-clause-notes_later g c = c.in-Err-write_part.ensures.blames.notes.later

pub returns-in-Err-write_part-clause-cause : goal.returns-in-Err-write_part-clause-cause
returns-in-Err-write_part-clause-cause g c = engine_cause (Err c.of_part.result) (returns-in-Err-write_part-clause-blames g c)
