use Rattle.std.proofs.Common.{◌≡◌, ◌+◌, ℕ, arith, ap, sym, subst, ◌∙◌}
use Rattle.std.specs.List.{flat_map, range_with_len}
use Rattle.std.specs.Io.KnownBytes.{Appends}
use Rattle.flux_base.specs.lemmas.Counting.{Counts-then}
use Rattle.flux_engine.specs.lemmas.Pieces.{pieces_next, pieces_stop}
use Rattle.disk_map.specs.Texts.{grid_text}
use Rattle.disk_map.proofs.disk.write_each_grid.Goals as goal

pub loop-head-preserved : goal.loop-head-preserved
loop-head-preserved g c = record {
  grew =
      let same : 0 + c.loop-head.head ≡ c.loop-head.head = omega arith in
      pieces_next (grid_text c.args.layout) (g.P.Sink.written c.args.picture.now) (g.P.Sink.written c.loop-head.picture) (g.P.Sink.written c.write_text.new.sink)
      0 c.loop-head.head c.grid_text.result.bytes (c.grid_text.ensures ∙ ap (grid_text c.args.layout) (sym same)) c.loop-head.invariant.grew c.in-Ok.ensures.ok;
  counts = Counts-then _ c.loop-head.invariant.counts c.in-Ok.ensures.counts;
}

pub returns-in-Err : goal.returns-in-Err
returns-in-Err g c =
    let same : 0 + c.loop-head.head ≡ c.loop-head.head = omega arith in
    record {
      ok = tt;
      err = pieces_stop (grid_text c.args.layout) (g.P.Sink.written c.args.picture.now) (g.P.Sink.written c.loop-head.picture) (g.P.Sink.written c.write_text.new.sink)
          0 c.loop-head.head (c.args.layout.last.head + 1) c.grid_text.result.bytes (omega arith) (c.grid_text.ensures ∙ ap (grid_text c.args.layout) (sym same))
          c.loop-head.invariant.grew c.in-Err.ensures.err;
      counts = Counts-then _ c.loop-head.invariant.counts c.in-Err.ensures.counts;
    }

pub returns : goal.returns
returns g c =
    let all : c.loop-head.head ≡ c.args.layout.last.head + 1 = omega arith in
    record {
      ok = subst (λ (n : ℕ). Appends (g.P.Sink.written c.args.picture.now) (g.P.Sink.written c.loop-head.picture) (flat_map (grid_text c.args.layout) (range_with_len 0 n))) all c.loop-head.invariant.grew;
      err = tt;
      counts = c.loop-head.invariant.counts;
    }
