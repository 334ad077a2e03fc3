use Rattle.std.proofs.Common.{◌≡◌, ◌*◌, length, arith, refl, ap, ◌∙◌}
use Rattle.flux_engine.specs.Captured.{count_of_clocks}
use Rattle.flux_engine.specs.Recordings.{track_at}
use Rattle.flux_engine.specs.Room.{RoomState}
use Rattle.dump_reading.specs.Beside.{of_tracks}
use Rattle.dump_reading.specs.Files.{shelf_at}
use Rattle.dump_reading.specs.Reports.{plan_by}
use Rattle.dump_reading.proofs.BesideSteps.{captures-more, kept-both, taken-more, taken-none}
use Rattle.dump_reading.proofs.beside.take_all.Goals as goal

pub loop-dump-init : goal.loop-dump-init
loop-dump-init g c = record {
  taken = λ track_of number start before same size came.
      taken-none (plan_by c.args.clocks (length c.args.dumps.now.names.now)) (track_at c.args.room.now.format c.args.room.now.started)
      (of_tracks c.args.dumps.now.stepping c.args.dumps.now.names.now track_of) start
      (shelf_at g.H.Source g.H.Shelf c.args.shelf.now)
      before c.args.room.now came c.requires.none_passed c.requires.no_others;
  kept = refl;
  captures = (let none : 0 ≡ 0 * count_of_clocks c.args.clocks = omega arith in c.requires.none ∙ none);
  passed = omega (arith, ap (λ ps. length ps) c.requires.none_passed);
}

pub loop-dump-preserved : goal.loop-dump-preserved
loop-dump-preserved g c =
    let kept = c.loop-dump.invariant.kept in
    record {
      taken = λ track_of number start before same size came.
          taken-more (plan_by c.args.clocks (length c.args.dumps.now.names.now)) (track_at c.args.room.now.format c.args.room.now.started)
          (of_tracks c.args.dumps.now.stepping c.args.dumps.now.names.now track_of) start
          (shelf_at g.H.Source g.H.Shelf c.loop-dump.shelf)
          (shelf_at g.H.Source g.H.Shelf c.take_names.new.source)
          before c.loop-dump.room c.take_names.new.room c.loop-dump.dump (c.loop-dump.invariant.taken track_of number start before same size came)
          number c.args.track (omega arith) size same (rw (ap (λ (r : RoomState). track_at r.format r.started) kept) at c.take_names.ensures.taken)
          (ap (λ (r : RoomState). r.format) c.take_names.ensures.kept);
      kept = kept-both c.args.room.now c.loop-dump.room c.take_names.new.room (count_of_clocks c.args.clocks) kept c.take_names.ensures.kept;
      captures = captures-more c.loop-dump.room c.take_names.new.room c.loop-dump.dump (count_of_clocks c.args.clocks) c.loop-dump.invariant.captures c.take_names.ensures.kept;
      passed = omega (arith, c.loop-dump.invariant.passed, c.take_names.ensures.passed);
    }

pub returns-clause-taken : goal.returns-clause-taken
returns-clause-taken g c = λ track_of number start before same size came.
    let all : c.loop-dump.dump ≡ length c.args.dumps.now.names.now = omega arith in
    rw all at (c.loop-dump.invariant.taken track_of number start before same size came)
