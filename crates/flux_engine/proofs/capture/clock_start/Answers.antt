use Rattle.std.proofs.Common.{◌≡◌, ap, arith, ◌∙◌}
use Rattle.flux_engine.specs.Recordings.{start_by, start_of}
use Rattle.flux_engine.proofs.capture.clock_start.Goals as goal

pub returns-clause-start : goal.returns-clause-start
returns-clause-start c =
    let mean : c.for_turn-mean.result ≡ start_of c.args.format c.args.track c.args.flux.now.indexes =
    rw (c.nominal.ensures, c.first_turn_ticks-turn.ensures, c.ring_cells.ensures) at c.for_turn-mean.ensures.start in
    c.start_by.ensures.start ∙ ap (start_by c.args.clock) mean

pub for_turn-mean-requires-clause-cells : goal.for_turn-mean-requires-clause-cells
for_turn-mean-requires-clause-cells c =
    let keeps = c.tracks_keep_bounds.ensures.bounds c.args.format c.args.track c.requires.track in
    omega (arith, c.ring_cells.ensures, keeps.shortest_ring)
