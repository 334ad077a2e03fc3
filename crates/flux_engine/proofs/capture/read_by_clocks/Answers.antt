use Rattle.std.proofs.Common.{◌≡◌, Ok, subst}
use Rattle.flux_base.specs.declared.track.TrackId.{TrackId}
use Rattle.flux_engine.specs.PlanAnswers.{ReadsByClocks}
use Rattle.flux_engine.specs.Recordings.{track_at}
use Rattle.flux_engine.specs.Room.{RoomState}
use Rattle.flux_engine.specs.lemmas.TrackAt.{track_is}
use Rattle.flux_engine.proofs.Noting.{reads_by_clocks}
use Rattle.flux_engine.proofs.capture.read_by_clocks.Goals as goal

pub returns-clause-read : goal.returns-clause-read
returns-clause-read g c =
    let inside = c.room.inside in
    let left = g.S.Source.left c.args.source.now in
    let left' = g.S.Source.left c.read_stream.new.source in
    let held' = c.read_stream.new.stream.held in
    let book' = c.note_by_clocks.new.tools.gathered.book in
    let others' = c.note_by_clocks.new.tools.gathered.others in
    let is : c.track_id-track.result ≡ track_at inside.format c.args.number =
    track_is inside.format c.args.number c.track_id-track.result c.track_id-track.ensures.at in
    let whole = reads_by_clocks c.args.rule c.args.clocks inside.format c.track_id-track.result c.args.capture left left' inside.stream.used inside.stream.held held'
    c.read_stream.new.stream.flux inside.tools.gathered.book book' inside.tools.gathered.others others' c.in-Ok.field-0 c.in-Ok.ensures.read (rw c.flux.ensures at c.note_by_clocks.ensures.noted) in
    let track = subst (λ (t : TrackId). ReadsByClocks c.args.rule c.args.clocks inside.format t c.args.capture left left' inside.stream.used inside.stream.held held' inside.tools.gathered.book book' inside.tools.gathered.others others' (Ok c.in-Ok.field-0)) is whole in
    subst (λ (r : RoomState). ReadsByClocks c.args.rule c.args.clocks r.format (track_at r.format c.args.number) c.args.capture left left' r.used r.held held' r.book book' r.others others' (Ok c.in-Ok.field-0))
    c.room.view_is track
