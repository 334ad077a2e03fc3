use Rattle.std.proofs.Common.{◌≤◌, ◌++◌, length, refl, ap, sym, ◌∙◌, subst, arith}
use Rattle.cell_bits.specs.Word.{word_cells}
use Rattle.flux_writer.specs.Reading.{HasEarlyOne}
use Rattle.test_engine.proofs.tests.streams.writes_a_ring_with_both_quarters.Goals as goal

pub write_track-requires-clause-few : goal.write_track-requires-clause-few
unfolding word_cells
write_track-requires-clause-few g c =
    let made = c.in_ok-push_word.ensures.cells ∙ ap (λ cells. cells ++ word_cells 16 18948) c.new-ring.ensures in
    subst (λ cells. length cells ≤ 524288) (sym made) (omega arith)

pub write_track-requires-clause-one : goal.write_track-requires-clause-one
unfolding word_cells
write_track-requires-clause-one g c =
    let made = c.in_ok-push_word.ensures.cells ∙ ap (λ cells. cells ++ word_cells 16 18948) c.new-ring.ensures in
    subst HasEarlyOne (sym made) (1, omega arith, omega arith, refl)
