use Rattle.std.proofs.Common.{Ok, length, sym, ap, ◌∙◌}
use Rattle.std.proofs.lemmas.Result.{on_ok_weaker as on_ok_then}
use Rattle.flux_base.specs.Blames.{no_counts}
use Rattle.flux_base.specs.lemmas.Counting.{Counts-none}
use Rattle.flux_engine.specs.Recordings.{track_at}
use Rattle.flux_engine.specs.Room.{RoomState}
use Rattle.dump_reading.specs.Beside.{of_tracks}
use Rattle.dump_reading.specs.Files.{shelf_at}
use Rattle.dump_reading.specs.inside.Looks.{untold}
use Rattle.dump_reading.specs.Reports.{plan_by}
use Rattle.dump_reading.proofs.BesideSteps.{below-kept, counts-kept, one-looked}
use Rattle.dump_reading.proofs.beside.read_one.Goals as goal
use Rattle.flux_base.specs.World.{sink_at}

pub count_names-requires-clause-below : goal.count_names-requires-clause-below
count_names-requires-clause-below g c =
    below-kept c.args.room.now c.take_all.new.room 1000
    (counts-kept c.args.room.now c.start_track.new.room c.take_all.new.room c.near_number.result c.start_track.ensures.started c.take_all.ensures.kept) c.requires.below

pub returns-clause-looked : goal.returns-clause-looked
returns-clause-looked g c = λ track_of number start before same size came.
    let counted = c.count_names.ensures.counted in
    one-looked (g.B.BesideWriter.lines_of c.args.writer.now) (plan_by c.args.clocks (length c.args.dumps.now.names.now)) c.args.track
    (track_at c.start_track.new.room.format c.start_track.new.room.started) (of_tracks c.args.dumps.now.stepping c.args.dumps.now.names.now track_of) start
    (shelf_at g.H.Source g.H.Shelf c.take_all.new.shelf)
    before c.args.room.now c.take_all.new.room c.count_names.new.room
    (sink_at g.N.Sink c.args.notes.now) (sink_at g.N.Sink c.write_beside.new.notes)
    (c.take_all.ensures.taken track_of number start before same size came) c.write_beside.result
    (ap (λ (r : RoomState). track_at r.format r.started) c.start_track.ensures.started ∙ rw c.room_format.ensures at c.near_number.ensures.near)
    (ap (λ (r : RoomState). r.format) c.take_all.ensures.kept ∙ ap (λ (r : RoomState). r.format) c.start_track.ensures.started)
    (counts-kept c.args.room.now c.start_track.new.room c.take_all.new.room c.near_number.result c.start_track.ensures.started c.take_all.ensures.kept) counted
    (λ others stand.
    let same_others = c.room_gathered.ensures.others ∙ ap (λ (r : RoomState). r.others) counted in
    let same_passed = c.room_gathered.ensures.passed ∙ ap (λ (r : RoomState). r.passed) counted in
    rw same_passed at (c.write_beside.ensures.wrote others (rw (sym same_others) at stand)))

pub returns-clause-second : goal.returns-clause-second
returns-clause-second g c = λ track_of number start before same size came.
    on_ok_then c.write_beside.result (λ took sound.
    let counted = c.count_names.ensures.counted in
    let same_others = c.room_gathered.ensures.others ∙ ap (λ (r : RoomState). r.others) counted in
    let same_passed = c.room_gathered.ensures.passed ∙ ap (λ (r : RoomState). r.passed) counted in
    let taken = c.take_all.ensures.taken track_of number start before same size came in
    let here = rw same_passed at (took taken.others (rw (sym same_others) at taken.stand)) sound in (
      here.0,
      here.1,
      one-looked (g.B.BesideWriter.second_lines_of c.args.writer.now) (plan_by c.args.clocks (length c.args.dumps.now.names.now)) c.args.track
          (track_at c.start_track.new.room.format c.start_track.new.room.started) (of_tracks c.args.dumps.now.stepping c.args.dumps.now.names.now track_of) start
          (shelf_at g.H.Source g.H.Shelf c.take_all.new.shelf)
          before c.args.room.now c.take_all.new.room c.count_names.new.room
          (untold (g.D.SecondSinks.now c.args.second.now).notes) (untold (g.D.SecondSinks.now c.write_beside.new.second).notes)
          taken (Ok tt)
          (ap (λ (r : RoomState). track_at r.format r.started) c.start_track.ensures.started ∙ rw c.room_format.ensures at c.near_number.ensures.near)
          (ap (λ (r : RoomState). r.format) c.take_all.ensures.kept ∙ ap (λ (r : RoomState). r.format) c.start_track.ensures.started)
          (counts-kept c.args.room.now c.start_track.new.room c.take_all.new.room c.near_number.result c.start_track.ensures.started c.take_all.ensures.kept) counted
          (λ others stand. record {
            ok = ((rw same_passed at (took others (rw (sym same_others) at stand))) sound).2;
            err = tt;
            counts = Counts-none no_counts;
          }),
    )) c.write_beside.ensures.second

pub returns-clause-below : goal.returns-clause-below
returns-clause-below g c = λ n below.
    c.count_names.ensures.below n
    (below-kept c.args.room.now c.take_all.new.room n
    (counts-kept c.args.room.now c.start_track.new.room c.take_all.new.room c.near_number.result c.start_track.ensures.started c.take_all.ensures.kept) below)
