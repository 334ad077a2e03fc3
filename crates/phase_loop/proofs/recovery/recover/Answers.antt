use Rattle.std.proofs.Common.{◌∙◌, ap, sym, subst}
use Rattle.std.proofs.lemmas.Result.{on_ok_weaker}
use Rattle.phase_loop.specs.Pieces.{FollowsRing, FollowsPieces, FollowsSteadyRing, FollowsSteadyPieces}
use Rattle.phase_loop.specs.Rows.{recovered}
use Rattle.phase_loop.proofs.RingLaws.{ring_recovered, pieces_recovered, steady_ring_recovered, steady_pieces_recovered}
use Rattle.phase_loop.proofs.recovery.recover.Goals as goal

pub returns-else-is_err-clause-ring : goal.returns-else-is_err-clause-ring
returns-else-is_err-clause-ring c =
    let start = c.args.start in
    on_ok_weaker c.append_cells-result.result
    (λ is whole. subst (FollowsRing start.nominal start.first c.args.flux.now.times) (sym (is ∙ ap (recovered start) c.times.ensures.value))
    (ring_recovered start c.args.flux.now.times c.requires.start whole))
    c.append_cells-result.ensures.ok

pub returns-else-is_err-clause-pieces : goal.returns-else-is_err-clause-pieces
returns-else-is_err-clause-pieces c =
    let start = c.args.start in
    on_ok_weaker c.append_cells-result.result
    (λ is whole. subst (FollowsPieces start.nominal start.first c.args.flux.now.times) (sym (is ∙ ap (recovered start) c.times.ensures.value))
    (pieces_recovered start c.args.flux.now.times c.requires.start whole))
    c.append_cells-result.ensures.ok

pub returns-else-is_err-clause-steady_ring : goal.returns-else-is_err-clause-steady_ring
returns-else-is_err-clause-steady_ring c =
    let start = c.args.start in
    on_ok_weaker c.append_cells-result.result
    (λ is held. subst (FollowsSteadyRing start.nominal start.first c.args.flux.now.times) (sym (is ∙ ap (recovered start) c.times.ensures.value))
    (steady_ring_recovered start c.args.flux.now.times c.requires.start held))
    c.append_cells-result.ensures.ok

pub returns-else-is_err-clause-steady_pieces : goal.returns-else-is_err-clause-steady_pieces
returns-else-is_err-clause-steady_pieces c =
    let start = c.args.start in
    on_ok_weaker c.append_cells-result.result
    (λ is held. subst (FollowsSteadyPieces start.nominal start.first c.args.flux.now.times) (sym (is ∙ ap (recovered start) c.times.ensures.value))
    (steady_pieces_recovered start c.args.flux.now.times c.requires.start held))
    c.append_cells-result.ensures.ok
