use Rattle.std.proofs.Common.{◌≤◌, [], map, refl, arith, append-nil}
use Rattle.std.proofs.lemmas.Result.{on_ok_weaker, on_err_weaker}
use Rattle.flux_base.specs.lemmas.Counting.{Counts-then}
use Rattle.flux_writer.specs.Written.{cell_time}
use Rattle.flux_writer.specs.inside.Writing.{times_between}
use Rattle.flux_writer.proofs.Progress.{IsWritten-start}
use Rattle.flux_writer.proofs.Rings.{are_counted, rising_times, IsReadyAt-start, times_of_turn, cells_more, cells_part, cells_all, cells_end, cells_fail}
use Rattle.flux_writer.proofs.track.write_turns.Goals as goal

pub new-stream-requires : goal.new-stream-requires
new-stream-requires g c = are_counted c.args.cells.now.cells c.args.turns.now c.requires.few c.requires.ones

pub write_part-requires-clause-ready : goal.write_part-requires-clause-ready
write_part-requires-clause-ready g c =
    let e = c.new-stream.ensures in
    let s = c.new-stream.result in
    IsReadyAt-start c.args.nominal s.position s.time s.indexes (map (cell_time c.args.nominal) c.args.turns.now) e.position e.time e.indexes
    (rising_times c.args.nominal c.args.turns.now (omega (arith, c.requires.least)) c.requires.order)

pub returns-in-Ok : goal.returns-in-Ok
returns-in-Ok g c =
    let e = c.new-stream.ensures in
    let s = c.new-stream.result in
    let n = c.write_part.new.stream in
    let start = g.W.Sink.written c.args.sink.now in
    let middle = g.W.Sink.written c.write_part.new.sink in
    let end = g.W.Sink.written c.finish.new.sink in
    let cells = c.args.cells.now.cells in
    let turns = c.args.turns.now in
    let nominal = c.args.nominal in
    let long : 1024 ≤ nominal = omega (arith, c.requires.least) in
    let written = cells_more nominal [] cells 0 refl start start middle (map (cell_time nominal) turns) s.piece s.position s.time s.indexes
    (IsWritten-start start s.piece s.position s.time s.indexes (map (cell_time nominal) turns) e.piece e.position e.time e.indexes)
    (times_between cells 0 c.len.result 0 nominal) n.piece n.position n.time n.indexes
    (times_of_turn cells c.len.result c.len.ensures.length 0 nominal) c.in-Ok.ensures.ok in
    let order = c.requires.order in
    record {
      ok = on_ok_weaker c.finish.result (cells_all cells turns nominal long order start middle end n.piece n.position n.time n.indexes written) c.finish.ensures.ok;
      err = on_err_weaker c.finish.result (cells_end cells turns nominal long order start middle end n.piece n.position n.time n.indexes written) c.finish.ensures.err;
      counts = Counts-then _ c.in-Ok.ensures.counts c.finish.ensures.counts;
    }

pub returns-in-Err : goal.returns-in-Err
returns-in-Err g c =
    let e = c.new-stream.ensures in
    let s = c.new-stream.result in
    let start = g.W.Sink.written c.args.sink.now in
    let end = g.W.Sink.written c.write_part.new.sink in
    let cells = c.args.cells.now.cells in
    let turns = c.args.turns.now in
    let nominal = c.args.nominal in
    record {
      ok = tt;
      err = cells_fail cells turns nominal (omega (arith, c.requires.least)) c.requires.order start start end
          (cells_part nominal [] cells 0 refl start start end (map (cell_time nominal) turns) s.piece s.position s.time s.indexes
          (IsWritten-start start s.piece s.position s.time s.indexes (map (cell_time nominal) turns) e.piece e.position e.time e.indexes)
          (times_between cells 0 c.len.result 0 nominal) [] cells (times_of_turn cells c.len.result c.len.ensures.length 0 nominal)
          (append-nil cells) c.in-Err.ensures.err);
      counts = c.in-Err.ensures.counts;
    }
