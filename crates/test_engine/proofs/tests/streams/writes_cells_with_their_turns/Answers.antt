use Rattle.std.proofs.Common.{◌++◌, [], ◌∷◌, All, zero, suc, refl, ap, sym, ◌∙◌, subst, arith}
use Rattle.cell_bits.specs.Run.{run_cells}
use Rattle.flux_writer.specs.Reading.{HasOneAfter}
use Rattle.test_engine.proofs.tests.streams.writes_cells_with_their_turns.Goals as goal

pub write_turns-requires-clause-ones : goal.write_turns-requires-clause-ones
write_turns-requires-clause-ones g c =
    let made = c.in_ok-push_run-3.ensures.cells
    ∙ ap (λ cells. cells ++ run_cells 1) (c.in_ok-push_run-2.ensures.cells
    ∙ ap (λ cells. cells ++ run_cells 2) (c.in_ok-push_run.ensures.cells ∙ ap (λ cells. cells ++ run_cells 4) c.new-cells.ensures)) in
    subst (λ cells. All (HasOneAfter cells) (0 ∷ 5 ∷ [])) (sym made) behind
  where
    behind : All (HasOneAfter ((([] ++ run_cells 4) ++ run_cells 2) ++ run_cells 1)) (0 ∷ 5 ∷ [])
    behind zero d below = (3, omega arith, refl)
    behind (suc zero) d below = (6, omega arith, refl)
    behind (suc (suc k)) d below = absurd (omega arith)
