use Rattle.std.proofs.Common.{◌≡◌, ◌+◌, ◌*◌, ◌/◌, ◌-◌, ◌++◌, suc, [], length, take, refl, ap, sym, ◌∙◌, subst, arith, append-nil}
use Rattle.std.proofs.lemmas.Result.{on_ok_weaker, on_err_weaker}
use Rattle.flux_base.specs.lemmas.Counting.{Counts-then}
use Rattle.flux_writer.specs.Written.{quarter, track_cells}
use Rattle.flux_writer.specs.inside.Writing.{IsReadyAt, IsWritten, times_between}
use Rattle.flux_writer.proofs.Progress.{IsWritten-start}
use Rattle.flux_writer.proofs.Rings.{times_of_cells, times_of_turn, times_of_end, times_of_begin, cells_more, cells_part}
use Rattle.flux_writer.proofs.track.write_ring.Goals as goal
use Rattle.flux_writer.specs.lemmas.TrackParts.{cells_after, length-cells_after, all_parts, rest_after}

pub returns-in-Err-clause-err : goal.returns-in-Err-clause-err
returns-in-Err-clause-err g c =
    let ring = c.args.ring.now.cells in
    let len = c.len-length.result in
    let start = g.W.Sink.written c.args.sink.now in
    let s = c.args.stream.now in
    cells_part c.args.nominal [] (cells_after ring 0) 0 refl start start (g.W.Sink.written c.write_part.new.sink) s.indexes
    s.piece s.position s.time s.indexes (IsWritten-start start s.piece s.position s.time s.indexes s.indexes c.requires.piece c.requires.position c.requires.time refl)
    (times_between ring (len - len / 4) len 0 c.args.nominal) (ring ++ (ring ++ (ring ++ take (quarter ring) ring))) (track_cells ring)
    (times_of_end ring len c.len-length.ensures.length 0 c.args.nominal) refl c.in-Err.ensures.err

pub returns-in-Err-write_part-clause-err : goal.returns-in-Err-write_part-clause-err
returns-in-Err-write_part-clause-err g c =
    let ring = c.args.ring.now.cells in
    let len = c.len-length.result in
    let i = c.loop.invariant in
    let s = c.loop.stream in
    let rest = rest_after ring (suc c.loop.counter) (omega arith) in
    cells_part c.args.nominal (cells_after ring c.loop.counter) ring c.loop.number (i.number ∙ sym (length-cells_after ring c.loop.counter))
    (g.W.Sink.written c.args.sink.now) (g.W.Sink.written c.loop.sink) (g.W.Sink.written c.write_part-in-loop.new.sink) c.args.stream.now.indexes
    s.piece s.position s.time s.indexes i.written (times_between ring 0 len c.loop.number c.args.nominal) rest.0 (track_cells ring)
    (times_of_turn ring len c.len-length.ensures.length c.loop.number c.args.nominal) rest.1 c.in-Err-write_part.ensures.err

pub loop-preserved : goal.loop-preserved
loop-preserved g c =
    let ring = c.args.ring.now.cells in
    let len = c.len-length.result in
    let i = c.loop.invariant in
    let s = c.loop.stream in
    let n = c.write_part-in-loop.new.stream in
    let e = c.in-Ok-write_part.ensures in
    let next : suc c.loop.counter ≡ c.loop.counter + 1 = omega arith in
    let whole : len - 0 ≡ len = omega arith in
    let product : (c.loop.counter + 1) * length ring ≡ c.loop.counter * length ring + length ring = grind arith in
    record {
      number = omega (arith, i.number, product, c.len-length.ensures.length);
      written = subst (λ k. IsWritten (g.W.Sink.written c.args.sink.now) (g.W.Sink.written c.write_part-in-loop.new.sink) [] 0 0 c.args.stream.now.indexes
          n.piece n.position n.time n.indexes (times_of_cells c.args.nominal 0 (cells_after ring k))) next
          (cells_more c.args.nominal (cells_after ring c.loop.counter) ring c.loop.number (i.number ∙ sym (length-cells_after ring c.loop.counter))
          (g.W.Sink.written c.args.sink.now) (g.W.Sink.written c.loop.sink) (g.W.Sink.written c.write_part-in-loop.new.sink) c.args.stream.now.indexes
          s.piece s.position s.time s.indexes i.written (times_between ring 0 len c.loop.number c.args.nominal) n.piece n.position n.time n.indexes
          (times_of_turn ring len c.len-length.ensures.length c.loop.number c.args.nominal) e.ok);
      ready = subst (λ m. IsReadyAt c.args.nominal n.position n.time (c.loop.number + m) n.indexes) whole e.ready;
      counts = Counts-then _ i.counts e.counts;
    }

pub returns-clause-ok : goal.returns-clause-ok
returns-clause-ok g c =
    let ring = c.args.ring.now.cells in
    let len = c.len-length.result in
    let i = c.loop.invariant in
    let s = c.loop.stream in
    let n = c.write_part-2.new.stream in
    let three : c.loop.counter ≡ 3 = omega arith in
    let at = i.number ∙ sym (length-cells_after ring c.loop.counter) ∙ ap (λ k. length (cells_after ring k)) three in
    let written = subst (λ k. IsWritten (g.W.Sink.written c.args.sink.now) (g.W.Sink.written c.loop.sink) [] 0 0 c.args.stream.now.indexes
    s.piece s.position s.time s.indexes (times_of_cells c.args.nominal 0 (cells_after ring k))) three i.written in
    on_ok_weaker c.write_part-2.result (λ more. subst (λ cells. IsWritten (g.W.Sink.written c.args.sink.now) (g.W.Sink.written c.write_part-2.new.sink) [] 0 0
    c.args.stream.now.indexes n.piece n.position n.time n.indexes (times_of_cells c.args.nominal 0 cells)) (all_parts ring)
    (cells_more c.args.nominal (cells_after ring 3) (take (quarter ring) ring) c.loop.number at
    (g.W.Sink.written c.args.sink.now) (g.W.Sink.written c.loop.sink) (g.W.Sink.written c.write_part-2.new.sink) c.args.stream.now.indexes
    s.piece s.position s.time s.indexes written (times_between ring 0 (len / 4) c.loop.number c.args.nominal) n.piece n.position n.time n.indexes
    (times_of_begin ring len c.len-length.ensures.length c.loop.number c.args.nominal) more)) c.write_part-2.ensures.ok

pub returns-clause-err : goal.returns-clause-err
returns-clause-err g c =
    let ring = c.args.ring.now.cells in
    let len = c.len-length.result in
    let i = c.loop.invariant in
    let s = c.loop.stream in
    let three : c.loop.counter ≡ 3 = omega arith in
    let at = i.number ∙ sym (length-cells_after ring c.loop.counter) ∙ ap (λ k. length (cells_after ring k)) three in
    let written = subst (λ k. IsWritten (g.W.Sink.written c.args.sink.now) (g.W.Sink.written c.loop.sink) [] 0 0 c.args.stream.now.indexes
    s.piece s.position s.time s.indexes (times_of_cells c.args.nominal 0 (cells_after ring k))) three i.written in
    on_err_weaker c.write_part-2.result (cells_part c.args.nominal (cells_after ring 3) (take (quarter ring) ring) c.loop.number at
    (g.W.Sink.written c.args.sink.now) (g.W.Sink.written c.loop.sink) (g.W.Sink.written c.write_part-2.new.sink) c.args.stream.now.indexes
    s.piece s.position s.time s.indexes written (times_between ring 0 (len / 4) c.loop.number c.args.nominal) [] (track_cells ring)
    (times_of_begin ring len c.len-length.ensures.length c.loop.number c.args.nominal)
    (append-nil (cells_after ring 3 ++ take (quarter ring) ring) ∙ all_parts ring)) c.write_part-2.ensures.err

pub returns-clause-counts : goal.returns-clause-counts
returns-clause-counts g c = Counts-then _ c.loop.invariant.counts c.write_part-2.ensures.counts
