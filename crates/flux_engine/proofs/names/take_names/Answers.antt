use Rattle.std.proofs.Common.{◌+◌, subst}
use Rattle.flux_base.specs.declared.track.TrackId.{TrackId}
use Rattle.index_turns.specs.Track.{TrackState}
use Rattle.flux_engine.specs.LoopProgress.{seen_next}
use Rattle.flux_engine.specs.Names.{HasNotedNames, HasTakenNames}
use Rattle.flux_engine.specs.Recordings.{track_at}
use Rattle.flux_engine.specs.Room.{RoomState}
use Rattle.flux_engine.specs.lemmas.TrackAt.{track_is}
use Rattle.flux_engine.proofs.names.take_names.Goals as goal

pub returns-clause-taken : goal.returns-clause-taken
returns-clause-taken g c =
    let inside = c.room.inside in
    let next = c.stream_of-next.result in
    let flux = c.stream_of-next.new.stream.flux in
    let gathered = c.note_names.new.tools.gathered in
    let room' : RoomState = record {
      format = inside.format;
      held = c.stream_of-next.new.stream.held;
      used = c.stream_of-next.new.stream.used;
      next = inside.next;
      started = inside.started;
      captures = inside.captures + c.clock_count.result;
      book = gathered.book;
      passed = gathered.passed.items;
      unread = inside.unread;
      lost = inside.lost;
      others = gathered.others;
      told_others = inside.told_others;
      whole_others = inside.whole_others;
      failed = inside.failed;
    } in
    let is = track_is inside.format inside.started c.track_id-near.result c.track_id-near.ensures.at in
    let noted = subst (λ (t : TrackId). HasNotedNames c.args.clocks inside.format t c.args.capture (seen_next next flux) inside.tools.gathered.passed.items gathered.passed.items inside.tools.gathered.others gathered.others) is
    (subst (λ (f : TrackState). HasNotedNames c.args.clocks inside.format c.track_id-near.result c.args.capture (seen_next next f) inside.tools.gathered.passed.items gathered.passed.items inside.tools.gathered.others gathered.others)
    c.flux.ensures c.note_names.ensures.noted) in
    subst (λ (r : RoomState). HasTakenNames (g.T.NamedStreams.gave c.args.streams.now c.args.source.now c.stream_of-next.new.source c.args.track c.args.capture) c.args.clocks (track_at r.format r.started) c.args.capture r room')
    c.room.view_is
    (record { here = seen_next next flux; gave = c.stream_of-next.ensures.next; noted = noted })
