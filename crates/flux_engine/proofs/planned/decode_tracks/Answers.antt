use Rattle.std.proofs.Common.{◌≡◌, ◌<◌, ◌+◌, ℕ, length, Ok, Err, ap, inl, inr, refl, subst, sym, ◌∙◌, arith}
use Rattle.flux_base.specs.lemmas.Blaming.{CountsBy-none, CountsBy-then}
use Rattle.sector_images.specs.Places.{tracks}
use Rattle.sector_images.specs.declared.format.Format.{Format}
use Rattle.sector_report.specs.declared.totals.Totals.{Totals}
use Rattle.flux_engine.specs.LoopProgress.{EndedInTrack, HasGathered}
use Rattle.flux_engine.specs.Plans.{joined}
use Rattle.flux_engine.specs.Recordings.{track_at}
use Rattle.flux_engine.specs.Room.{RoomState}
use Rattle.flux_engine.specs.SecondSinks.{WritesSecond}
use Rattle.flux_engine.specs.TrackParts.{WritesPart}
use Rattle.flux_engine.specs.Tracks.{track_notes}
use Rattle.flux_engine.proofs.BlamedSteps.{sink_blames}
use Rattle.flux_engine.proofs.LoopSteps.{counts_start, ended_by_sink, written_more, written_start}
use Rattle.flux_engine.proofs.planned.decode_tracks.Goals as goal

pub loop-number-init : goal.loop-number-init
loop-number-init g c = record {
  written = written_start c.args.plan (g.O.TrackWriter.part_of c.args.writer.now) c.args.room.now.format
      (g.T.TrackStreams.came c.args.streams.now c.args.plan c.args.room.now.format c.args.source.now c.args.source.now) _ _ c.args.room.now c.args.totals.now
      c.requires.fresh c.requires.none (g.met.T.TrackStreams.begins c.args.streams.now c.args.plan c.args.room.now.format c.args.source.now);
  second = λ sound. written_start c.args.plan (g.O.TrackWriter.second_part_of c.args.writer.now) c.args.room.now.format
      (g.T.TrackStreams.came c.args.streams.now c.args.plan c.args.room.now.format c.args.source.now c.args.source.now) _ _ c.args.room.now c.args.totals.now
      c.requires.fresh c.requires.none (g.met.T.TrackStreams.begins c.args.streams.now c.args.plan c.args.room.now.format c.args.source.now);
  sum = rw c.requires.none refl;
  few = (let none : c.args.totals.now.sectors ≡ 0 = ap (λ (t : Totals). t.sectors) c.requires.none in omega (arith, none));
  counts = counts_start c.args.room.now c.args.room.now.format c.requires.fresh;
  blames = CountsBy-none _;
}

pub returns-in-Err-clause-err : goal.returns-in-Err-clause-err
returns-in-Err-clause-err g c =
    let h = c.loop-number.invariant.written in
    let n = c.loop-number.number in
    let plan = c.args.plan in
    let start = c.args.source.now in
    let format = c.args.room.now.format in
    let room = c.loop-number.room in
    let all : c.track_count-number-end.result ≡ length (tracks format) = c.track_count-number-end.ensures ∙ ap (λ (r : RoomState). length (tracks r.format)) c.room.view_is in
    let came = subst (λ (f : Format). g.T.TrackStreams.came c.args.streams.now plan f start c.loop-number.source room.held room.used h.streams) (sym h.format_is) h.came in
    inl (record {
      number = n;
      low = omega (arith, all);
      streams = h.streams;
      all = h.all;
      parts = h.parts;
      many = h.many;
      each = h.each;
      image_grew = h.image_grew;
      notes_grew = h.notes_grew;
      totals_are = h.totals_are;
      ended = subst (λ (f : Format). EndedInTrack plan n (g.T.TrackStreams.ended c.args.streams.now plan f start c.read_captures.new.source) h.streams c.in-Err.fault) h.format_is
          (c.in-Err.ensures.read start h.streams h.all h.whole came);
    })

pub returns-in-Err-write_started-clause-err : goal.returns-in-Err-write_started-clause-err
returns-in-Err-write_started-clause-err g c =
    let h = c.loop-number.invariant.written in
    let n = c.loop-number.number in
    let plan = c.args.plan in
    let of = g.O.TrackWriter.part_of c.args.writer.now in
    let start = c.args.source.now in
    let format = c.args.room.now.format in
    let room = c.loop-number.room in
    let room' = c.read_captures.new.room in
    let imid = g.W.Sink.written c.loop-number.image in
    let image' = g.W.Sink.written c.write_started.new.image in
    let nmid = g.N.Sink.written c.loop-number.notes in
    let notes' = g.N.Sink.written c.write_started.new.notes in
    let fault = c.in-Err-write_started.fault in
    let all : c.track_count-number-end.result ≡ length (tracks format) = c.track_count-number-end.ensures ∙ ap (λ (r : RoomState). length (tracks r.format)) c.room.view_is in
    let low : n < length (tracks format) = omega (arith, all) in
    let came = subst (λ (f : Format). g.T.TrackStreams.came c.args.streams.now plan f start c.loop-number.source room.held room.used h.streams) (sym h.format_is) h.came in
    let gathered = subst (λ (f : Format). HasGathered plan f n (g.T.TrackStreams.came c.args.streams.now plan f start c.read_captures.new.source) h.streams room' plan.captures) h.format_is
    (c.in-Ok.ensures.read start h.streams h.all h.whole came) in
    let wrote = subst (λ (f : Format). WritesPart (of f (track_at f n) (track_notes (joined gathered.captures) room'.passed gathered.others)) imid image' nmid notes' (Err fault)) (c.in-Ok.ensures.format ∙ h.format_is)
    (subst (λ (k : ℕ). WritesPart (of room'.format (track_at room'.format k) (track_notes (joined gathered.captures) room'.passed gathered.others)) imid image' nmid notes' (Err fault)) c.in-Ok.ensures.started
    (c.in-Err-write_started.ensures.wrote (joined gathered.captures) gathered.others gathered.stands gathered.others_stand)) in
    rw c.of_part.ensures
    (inr (ended_by_sink plan of format (g.T.TrackStreams.came c.args.streams.now plan format start c.loop-number.source) (g.T.TrackStreams.came c.args.streams.now plan format start c.read_captures.new.source)
    (g.W.Sink.written c.args.image.now) imid image' (g.N.Sink.written c.args.notes.now) nmid notes' room room' n c.loop-number.totals h gathered fault low wrote))

pub loop-number-preserved : goal.loop-number-preserved
loop-number-preserved g c =
    let i = c.loop-number.invariant in
    let h = i.written in
    let n = c.loop-number.number in
    let plan = c.args.plan in
    let of = g.O.TrackWriter.part_of c.args.writer.now in
    let start = c.args.source.now in
    let format = c.args.room.now.format in
    let room = c.loop-number.room in
    let room' = c.read_captures.new.room in
    let imid = g.W.Sink.written c.loop-number.image in
    let image' = g.W.Sink.written c.write_started.new.image in
    let nmid = g.N.Sink.written c.loop-number.notes in
    let notes' = g.N.Sink.written c.write_started.new.notes in
    let more = c.in-Ok-write_started.more in
    let e = c.in-Ok-write_started.ensures in
    let came = subst (λ (f : Format). g.T.TrackStreams.came c.args.streams.now plan f start c.loop-number.source room.held room.used h.streams) (sym h.format_is) h.came in
    let gathered = subst (λ (f : Format). HasGathered plan f n (g.T.TrackStreams.came c.args.streams.now plan f start c.read_captures.new.source) h.streams room' plan.captures) h.format_is
    (c.in-Ok.ensures.read start h.streams h.all h.whole came) in
    let wrote = subst (λ (f : Format). WritesPart (of f (track_at f n) (track_notes (joined gathered.captures) room'.passed gathered.others)) imid image' nmid notes' (Ok more)) (c.in-Ok.ensures.format ∙ h.format_is)
    (subst (λ (k : ℕ). WritesPart (of room'.format (track_at room'.format k) (track_notes (joined gathered.captures) room'.passed gathered.others)) imid image' nmid notes' (Ok more)) c.in-Ok.ensures.started
    (e.wrote (joined gathered.captures) gathered.others gathered.stands gathered.others_stand)) in
    let sum : c.add_totals.new.totals.sectors ≡ c.loop-number.totals.sectors + more.sectors = ap (λ (t : Totals). t.sectors) c.add_totals.ensures.value in
    record {
      written = written_more plan of format (g.T.TrackStreams.came c.args.streams.now plan format start c.loop-number.source) (g.T.TrackStreams.came c.args.streams.now plan format start c.read_captures.new.source)
          (g.W.Sink.written c.args.image.now) imid image' (g.N.Sink.written c.args.notes.now) nmid notes' room room' n c.loop-number.totals h gathered
          more c.add_totals.new.totals c.in-Ok.ensures.format c.in-Ok.ensures.counts c.in-Ok.ensures.sound wrote c.add_totals.ensures.value;
      second = λ sound.
          let second_of = g.O.TrackWriter.second_part_of c.args.writer.now in
          let s0 = g.D.SecondSinks.now c.args.second.now in
          let s = g.D.SecondSinks.now c.loop-number.second in
          let s' = g.D.SecondSinks.now c.write_started.new.second in
          let took = subst (λ (f : Format). WritesSecond (second_of f (track_at f n) (track_notes (joined gathered.captures) room'.passed gathered.others)) s s' (Ok more)) (c.in-Ok.ensures.format ∙ h.format_is)
          (subst (λ (k : ℕ). WritesSecond (second_of room'.format (track_at room'.format k) (track_notes (joined gathered.captures) room'.passed gathered.others)) s s' (Ok more)) c.in-Ok.ensures.started
          (e.second (joined gathered.captures) gathered.others gathered.stands gathered.others_stand)) sound in
          let before = i.second took.0 in
          let came2 = subst (λ (f : Format). g.T.TrackStreams.came c.args.streams.now plan f start c.loop-number.source room.held room.used before.streams) (sym h.format_is) before.came in
          let gathered2 = subst (λ (f : Format). HasGathered plan f n (g.T.TrackStreams.came c.args.streams.now plan f start c.read_captures.new.source) before.streams room' plan.captures) h.format_is
          (c.in-Ok.ensures.read start before.streams before.all before.whole came2) in
          let took2 = subst (λ (f : Format). WritesSecond (second_of f (track_at f n) (track_notes (joined gathered2.captures) room'.passed gathered2.others)) s s' (Ok more)) (c.in-Ok.ensures.format ∙ h.format_is)
          (subst (λ (k : ℕ). WritesSecond (second_of room'.format (track_at room'.format k) (track_notes (joined gathered2.captures) room'.passed gathered2.others)) s s' (Ok more)) c.in-Ok.ensures.started
          (e.second (joined gathered2.captures) gathered2.others gathered2.stands gathered2.others_stand)) sound in
          written_more plan second_of format (g.T.TrackStreams.came c.args.streams.now plan format start c.loop-number.source) (g.T.TrackStreams.came c.args.streams.now plan format start c.read_captures.new.source)
          s0.image s.image s'.image s0.notes s.notes s'.notes room room' n c.loop-number.totals before gathered2
          more c.add_totals.new.totals c.in-Ok.ensures.format c.in-Ok.ensures.counts c.in-Ok.ensures.sound took2.1 c.add_totals.ensures.value;
      sum = c.add_totals.ensures.sum;
      few = omega (arith, e.few, sum, i.few);
      counts = c.in-Ok.ensures.few;
      blames = CountsBy-then _ i.blames e.blames;
    }

pub returns-in-Err-clause-blames : goal.returns-in-Err-clause-blames
returns-in-Err-clause-blames g c = rw c.in-Err.ensures.blames c.loop-number.invariant.blames

pub returns-in-Err-write_started-clause-blames : goal.returns-in-Err-write_started-clause-blames
returns-in-Err-write_started-clause-blames g c =
    rw c.of_part.ensures
    (CountsBy-then _ c.loop-number.invariant.blames (sink_blames Totals (Unit {0}) c.in-Err-write_started.fault c.in-Err-write_started.ensures.blames))
