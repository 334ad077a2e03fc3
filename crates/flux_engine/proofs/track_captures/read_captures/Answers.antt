use Rattle.std.proofs.Common.{◌≡◌, ◌<◌, ◌+◌, ◌++◌, ℕ, length, ap, refl, subst, sym, ◌∙◌, arith}
use Rattle.std.proofs.Math.Nat.{zero-mul}
use Rattle.sector_images.specs.declared.format.Format.{Format}
use Rattle.flux_engine.specs.Captured.{count_of_clocks}
use Rattle.flux_engine.specs.LoopProgress.{HasGathered, HasTakenNext}
use Rattle.flux_engine.specs.Recordings.{track_at}
use Rattle.flux_engine.specs.Room.{RoomState}
use Rattle.flux_engine.proofs.BlamedSteps.{stream_blames}
use Rattle.flux_engine.proofs.LoopSteps.{came-size, counts_below, counts_track, ended_here, gathered_counted, gathered_more, gathered_none}
use Rattle.flux_engine.proofs.PlanParts.{few_sources, one_more_source}
use Rattle.flux_engine.proofs.track_captures.read_captures.Goals as goal

pub loop-capture-init : goal.loop-capture-init
loop-capture-init g c =
    let room = c.start_track.new.room in
    let started = c.start_track.ensures.started in
    let none = ap (λ (r : RoomState). r.passed) started in
    record {
      read = λ start before size whole came.
          gathered_none c.args.plan room.format c.args.number (g.T.TrackStreams.came c.args.streams.now c.args.plan room.format start c.args.source.now) before room came whole
          c.start_track.ensures.empty none c.start_track.ensures.no_others;
      format = refl;
      started = ap (λ (r : RoomState). r.started) started;
      captures = ap (λ (r : RoomState). r.captures) started ∙ sym (zero-mul (count_of_clocks c.args.plan.clocks));
      passed = (let size = ap length none in omega (arith, size));
      unread = refl;
      lost = refl;
      told_others = refl;
      whole_others = refl;
      sound = ap (λ (r : RoomState). r.failed) started ∙ c.requires.sound;
    }

pub take_next-requires-clause-few : goal.take_next-requires-clause-few
take_next-requires-clause-few g c =
    few_sources c.args.plan.clocks c.loop-capture.capture c.args.plan.captures c.loop-capture.room.captures (omega arith) c.requires.few c.loop-capture.invariant.captures

pub take_next-requires-clause-room : goal.take_next-requires-clause-room
take_next-requires-clause-room g c = omega (arith, c.loop-capture.invariant.passed, c.requires.few)

pub returns-in-Err-clause-read : goal.returns-in-Err-clause-read
returns-in-Err-clause-read g c = λ start before size whole came.
    let i = c.loop-capture.invariant in
    let q = c.loop-capture.capture in
    let plan = c.args.plan in
    let first = c.start_track.new.room in
    let started = c.start_track.ensures.started in
    let room = c.loop-capture.room in
    let room' = c.take_next.new.room in
    let source = c.loop-capture.source in
    let source' = c.take_next.new.source in
    let low : q < plan.captures = omega arith in
    let came' = subst (λ (r : RoomState). g.T.TrackStreams.came c.args.streams.now plan r.format start c.args.source.now r.held r.used before) (sym started) came in
    let h = i.read start before size whole came' in
    let Came = g.T.TrackStreams.came c.args.streams.now plan first.format start source in
    let here = subst (λ (f : Format). g.T.TrackStreams.came c.args.streams.now plan f start source room.held room.used (before ++ h.more)) (sym i.format) h.came in
    let format : room.format ≡ c.args.room.now.format = i.format ∙ ap (λ (r : RoomState). r.format) started in
    let ended = subst (λ (f : Format). g.T.TrackStreams.ended c.args.streams.now plan f start source' (before ++ h.more) c.in-Err.fault) format
    (c.in-Err.ensures.taken plan start (before ++ h.more) low (came-size plan first.format c.args.number Came Came before size room room' q h) here) in
    rw (c.of_stream.ensures, c.from.ensures)
    (ended_here plan first.format c.args.number Came Came before size room room' q h (g.T.TrackStreams.ended c.args.streams.now plan c.args.room.now.format start source') c.in-Err.fault low ended)

pub returns-in-Err-clause-blames : goal.returns-in-Err-clause-blames
returns-in-Err-clause-blames g c =
    rw c.of_stream.ensures (stream_blames (Unit {0}) c.args.number c.from.result c.in-Err.fault)

pub loop-capture-preserved : goal.loop-capture-preserved
loop-capture-preserved g c =
    let i = c.loop-capture.invariant in
    let q = c.loop-capture.capture in
    let plan = c.args.plan in
    let first = c.start_track.new.room in
    let room = c.loop-capture.room in
    let room' = c.take_next.new.room in
    let source = c.loop-capture.source in
    let source' = c.take_next.new.source in
    let low : q < plan.captures = omega arith in
    let e = c.in-Ok.ensures in
    record {
      read = λ start before size whole came.
          let h = i.read start before size whole came in
          let Came = g.T.TrackStreams.came c.args.streams.now plan first.format start source in
          let Came' = g.T.TrackStreams.came c.args.streams.now plan first.format start source' in
          let here = subst (λ (f : Format). g.T.TrackStreams.came c.args.streams.now plan f start source room.held room.used (before ++ h.more)) (sym i.format) h.came in
          let taken = e.taken plan start (before ++ h.more) low (came-size plan first.format c.args.number Came Came before size room room' q h) here in
          gathered_more plan first.format c.args.number Came Came' before size room room' q h
          (subst (λ (f : Format). HasTakenNext (g.T.TrackStreams.came c.args.streams.now plan f start source') plan.rule plan.clocks f (track_at f c.args.number) q (before ++ h.more) room room') i.format taken);
      format = e.format ∙ i.format;
      started = e.started;
      captures = e.captures ∙ ap (λ (k : ℕ). k + count_of_clocks plan.clocks) i.captures ∙ one_more_source plan.clocks q;
      passed = omega (arith, e.passed, i.passed);
      unread = e.unread ∙ i.unread;
      lost = e.lost ∙ i.lost;
      told_others = e.told_others ∙ i.told_others;
      whole_others = e.whole_others ∙ i.whole_others;
      sound = e.sound;
    }

-- the room before the track was counted has as many as at the begin
pub count_track-requires-clause-unread : goal.count_track-requires-clause-unread
count_track-requires-clause-unread g c =
    let i = c.loop-capture.invariant in
    let first : c.start_track.new.room.unread ≡ c.args.room.now.unread = ap (λ (r : RoomState). r.unread) c.start_track.ensures.started in
    omega (arith, i.unread, i.passed, first, c.requires.counted.unread, c.requires.few, c.requires.track, c.tracks_keep_bounds.ensures.few c.args.room.now.format)

pub count_track-requires-clause-lost : goal.count_track-requires-clause-lost
count_track-requires-clause-lost g c =
    let i = c.loop-capture.invariant in
    let first : c.start_track.new.room.lost ≡ c.args.room.now.lost = ap (λ (r : RoomState). r.lost) c.start_track.ensures.started in
    omega (arith, i.lost, i.passed, first, c.requires.counted.lost, c.requires.few, c.requires.track, c.tracks_keep_bounds.ensures.few c.args.room.now.format)

pub count_track-requires-clause-told : goal.count_track-requires-clause-told
count_track-requires-clause-told g c =
    let first : c.start_track.new.room.told_others ≡ c.args.room.now.told_others = ap (λ (r : RoomState). r.told_others) c.start_track.ensures.started in
    omega (arith, c.loop-capture.invariant.told_others, first, c.requires.counted.told, c.requires.track, c.tracks_keep_bounds.ensures.few c.args.room.now.format)

pub count_track-requires-clause-whole : goal.count_track-requires-clause-whole
count_track-requires-clause-whole g c =
    let first : c.start_track.new.room.whole_others ≡ c.args.room.now.whole_others = ap (λ (r : RoomState). r.whole_others) c.start_track.ensures.started in
    omega (arith, c.loop-capture.invariant.whole_others, first, c.requires.counted.whole, c.requires.track, c.tracks_keep_bounds.ensures.few c.args.room.now.format)

pub returns-clause-counts : goal.returns-clause-counts
returns-clause-counts g c =
    let i = c.loop-capture.invariant in
    let started = c.start_track.ensures.started in
    counts_track c.args.room.now c.loop-capture.room c.count_track.new.self
    (i.unread ∙ ap (λ (r : RoomState). r.unread) started)
    (i.lost ∙ ap (λ (r : RoomState). r.lost) started)
    (i.told_others ∙ ap (λ (r : RoomState). r.told_others) started)
    (i.whole_others ∙ ap (λ (r : RoomState). r.whole_others) started) c.count_track.ensures

pub returns-clause-few : goal.returns-clause-few
returns-clause-few g c =
    let i = c.loop-capture.invariant in
    let started = c.start_track.ensures.started in
    let counts = counts_track c.args.room.now c.loop-capture.room c.count_track.new.self
    (i.unread ∙ ap (λ (r : RoomState). r.unread) started)
    (i.lost ∙ ap (λ (r : RoomState). r.lost) started)
    (i.told_others ∙ ap (λ (r : RoomState). r.told_others) started)
    (i.whole_others ∙ ap (λ (r : RoomState). r.whole_others) started) c.count_track.ensures in
    let same = ap (λ (r : RoomState). length r.passed) c.count_track.ensures in
    counts_below c.args.room.now c.count_track.new.self c.args.number counts (omega (arith, i.passed, c.requires.few, same)) c.requires.counted

pub returns-clause-read : goal.returns-clause-read
returns-clause-read g c = λ start before size whole came.
    let i = c.loop-capture.invariant in
    let plan = c.args.plan in
    let first = c.start_track.new.room in
    let started = c.start_track.ensures.started in
    let room = c.loop-capture.room in
    let came' = subst (λ (r : RoomState). g.T.TrackStreams.came c.args.streams.now plan r.format start c.args.source.now r.held r.used before) (sym started) came in
    let all : c.loop-capture.capture ≡ plan.captures = omega arith in
    gathered_counted plan c.args.room.now.format c.args.number (g.T.TrackStreams.came c.args.streams.now plan c.args.room.now.format start c.loop-capture.source) before room c.count_track.new.self plan.captures
    c.count_track.ensures
    (subst (λ (q : ℕ). HasGathered plan c.args.room.now.format c.args.number (g.T.TrackStreams.came c.args.streams.now plan c.args.room.now.format start c.loop-capture.source) before room q) all
    (subst (λ (f : Format). HasGathered plan f c.args.number (g.T.TrackStreams.came c.args.streams.now plan f start c.loop-capture.source) before room c.loop-capture.capture)
    (ap (λ (r : RoomState). r.format) started) (i.read start before size whole came')))
