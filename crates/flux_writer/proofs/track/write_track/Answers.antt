use Rattle.std.proofs.Common.{◌≡◌, ◌≤◌, ◌<◌, ◌+◌, ◌*◌, ◌/◌, ℕ, [], ◌∷◌, List, length, map, ap, sym, ◌∙◌, subst, arith}
use Rattle.std.specs.List.Sorted.{IsStrictlyIncreasing}
use Rattle.std.proofs.lemmas.Result.{on_ok_weaker, on_err_weaker}
use Rattle.flux_base.specs.lemmas.Counting.{Counts-then}
use Rattle.flux_base.specs.Outside.{AppendsPart}
use Rattle.kryo_stream.specs.Sequence.{spellings}
use Rattle.flux_writer.specs.Written.{cell_time, track_cells, track_turns}
use Rattle.flux_writer.specs.inside.Writing.{IsWritten, many_blocks, track_times}
use Rattle.flux_writer.proofs.Rings.{turns_rise, rising_times, cells_all, cells_end, cells_fail}
use Rattle.flux_writer.proofs.track.write_track.Goals as goal

-- the index cells that the code makes
made_turns : (nominal len size : ℕ) (indexes : List ℕ) → len ≡ size
    → indexes ≡ map (cell_time nominal) (len / 4 ∷ (len / 4 + len) ∷ (len / 4 + 2 * len) ∷ (len / 4 + 3 * len) ∷ [])
    → indexes ≡ map (cell_time nominal) (size / 4 ∷ (size / 4 + size) ∷ (size / 4 + 2 * size) ∷ (size / 4 + 3 * size) ∷ [])
made_turns nominal len size indexes same is =
    is ∙ ap (λ n. map (cell_time nominal) (n / 4 ∷ (n / 4 + n) ∷ (n / 4 + 2 * n) ∷ (n / 4 + 3 * n) ∷ [])) same

pub write_ring-requires-clause-order : goal.write_ring-requires-clause-order
write_ring-requires-clause-order g c =
    let ring = c.args.ring.now.cells in
    let some : 0 < length ring = omega (arith, c.requires.one.1, c.requires.one.2) in
    subst IsStrictlyIncreasing (sym (made_turns c.args.nominal c.len-length.result (length ring) c.new-stream.result.indexes c.len-length.ensures.length c.new-stream.ensures.indexes))
    (rising_times c.args.nominal (track_turns ring) (omega (arith, c.requires.least)) (turns_rise ring some))

pub returns-in-Ok : goal.returns-in-Ok
returns-in-Ok g c =
    let ring = c.args.ring.now.cells in
    let nominal = c.args.nominal in
    let n = c.write_ring.new.stream in
    let start = g.W.Sink.written c.args.sink.now in
    let middle = g.W.Sink.written c.write_ring.new.sink in
    let end = g.W.Sink.written c.finish.new.sink in
    let some : 0 < length ring = omega (arith, c.requires.one.1, c.requires.one.2) in
    let long : 1024 ≤ nominal = omega (arith, c.requires.least) in
    let rise = turns_rise ring some in
    let made = made_turns nominal c.len-length.result (length ring) c.new-stream.result.indexes c.len-length.ensures.length c.new-stream.ensures.indexes in
    let written = subst (λ l. IsWritten start middle [] 0 0 l n.piece n.position n.time n.indexes (track_times ring nominal)) made c.in-Ok.ensures.ok in
    record {
      ok = on_ok_weaker c.finish.result (cells_all (track_cells ring) (track_turns ring) nominal long rise start middle end
          n.piece n.position n.time n.indexes written) c.finish.ensures.ok;
      err = on_err_weaker c.finish.result (cells_end (track_cells ring) (track_turns ring) nominal long rise start middle end
          n.piece n.position n.time n.indexes written) c.finish.ensures.err;
      counts = Counts-then _ c.in-Ok.ensures.counts c.finish.ensures.counts;
    }

pub returns-in-Err : goal.returns-in-Err
returns-in-Err g c =
    let ring = c.args.ring.now.cells in
    let nominal = c.args.nominal in
    let start = g.W.Sink.written c.args.sink.now in
    let end = g.W.Sink.written c.write_ring.new.sink in
    let some : 0 < length ring = omega (arith, c.requires.one.1, c.requires.one.2) in
    let made = made_turns nominal c.len-length.result (length ring) c.new-stream.result.indexes c.len-length.ensures.length c.new-stream.ensures.indexes in
    record {
      ok = tt;
      err = cells_fail (track_cells ring) (track_turns ring) nominal (omega (arith, c.requires.least)) (turns_rise ring some) start start end
          (subst (λ l. AppendsPart start end (spellings (many_blocks 0 0 (track_times ring nominal) l))) made c.in-Err.ensures.err);
      counts = c.in-Err.ensures.counts;
    }
