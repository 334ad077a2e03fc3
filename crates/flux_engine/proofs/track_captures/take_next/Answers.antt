use Rattle.std.proofs.Common.{◌≡◌, ◌<◌, ◌+◌, ◌*◌, List, false, length, subst}
use Rattle.flux_base.specs.declared.track.TrackId.{TrackId}
use Rattle.index_turns.specs.Track.{TrackState}
use Rattle.flux_engine.specs.LoopProgress.{HasNotedNext, HasTakenNext, seen_next}
use Rattle.flux_engine.specs.Plans.{Seen}
use Rattle.flux_engine.specs.Recordings.{track_at}
use Rattle.flux_engine.specs.Room.{RoomState}
use Rattle.flux_engine.specs.declared.plan.Plan.{Plan}
use Rattle.flux_engine.specs.lemmas.TrackAt.{track_is}
use Rattle.flux_engine.proofs.PassedStreams.{seen-whole}
use Rattle.flux_engine.proofs.track_captures.take_next.Goals as goal

pub returns-clause-taken : goal.returns-clause-taken
returns-clause-taken g c =
    let inside = c.room.inside in
    let next = c.in-Ok.next in
    let flux = c.next_stream.new.stream.flux in
    let source' = c.next_stream.new.source in
    let gathered = c.note_next.new.tools.gathered in
    let room' : RoomState = record {
      format = inside.format;
      held = c.next_stream.new.stream.held;
      used = c.next_stream.new.stream.used;
      next = inside.next;
      started = inside.started;
      captures = inside.captures + c.clock_count.result;
      book = gathered.book;
      passed = gathered.passed.items;
      unread = inside.unread;
      lost = inside.lost;
      others = gathered.others;
      told_others = inside.told_others;
      whole_others = inside.whole_others;
      failed = false;
    } in
    let is : c.track_id-track.result ≡ track_at inside.format c.args.number =
    track_is inside.format c.args.number c.track_id-track.result c.track_id-track.ensures.at in
    let noted = subst (λ (t : TrackId). HasNotedNext next c.args.rule c.args.clocks inside.format t flux c.args.capture inside.tools.gathered.book gathered.book inside.tools.gathered.passed.items gathered.passed.items inside.tools.gathered.others gathered.others) is
    (subst (λ (f : TrackState). HasNotedNext next c.args.rule c.args.clocks inside.format c.track_id-track.result f c.args.capture inside.tools.gathered.book gathered.book inside.tools.gathered.passed.items gathered.passed.items inside.tools.gathered.others gathered.others)
    c.flux.ensures c.note_next.ensures.noted) in
    subst (λ (r : RoomState). (plan : Plan) (start : g.row.S.Denot) (before : List Seen) → c.args.capture < plan.captures → length before ≡ c.args.number * plan.captures + c.args.capture
    → g.T.TrackStreams.came c.args.streams.now plan r.format start c.args.source.now r.held r.used before
    → HasTakenNext (g.T.TrackStreams.came c.args.streams.now plan r.format start source') c.args.rule c.args.clocks r.format (track_at r.format c.args.number) c.args.capture before r room')
    c.room.view_is
    (λ plan start before few size came. record {
      here = seen_next next flux;
      whole = seen-whole next flux;
      came = c.in-Ok.ensures.next plan start before few size came;
      readings = noted.readings;
      are = noted.are;
      noted = noted.noted;
      passed_are = noted.passed_are;
      others = noted.others;
      others_are = noted.others_are;
      others_noted = noted.others_noted;
    })
