use Rattle.std.proofs.Common.{◌≡◌, ◌≤◌, length, vec_len, vec_capacity, ap, sym, arith, le_trans, le_of_eq}
use Rattle.std.proofs.lemmas.Grind.{common_steps}
use Rattle.cell_bits.specs.State.{room}
use Rattle.cell_bits.specs.Word.{word_cells}
use Rattle.cell_bits.proofs.Packing.{all_cells, room-within}
use Rattle.cell_bits.proofs.cells.Cells.clear.Goals as goal

pub invariant_of-self : goal.invariant_of-self
invariant_of-self c = (omega arith, omega arith, omega (arith, c.clear.ensures.len), c.forget.ensures _ _ c.self.invariant.3)

pub returns-clause-cells : goal.returns-clause-cells
unfolding word_cells
returns-clause-cells c = ap (λ words. all_cells words 0 0) c.clear.ensures.items

pub returns-clause-spare : goal.returns-clause-spare
returns-clause-spare c =
    let whole : length c.self.inside.words.items ≡ vec_len c.self.inside.words = grind (arith, common_steps) in
    let held : vec_len c.self.inside.words ≤ vec_capacity c.self.inside.words = grind (arith, common_steps) in
    let all = room-within c.self.inside.words.items c.self.inside.filled c.self.inside.last _ _ whole held c.self.invariant.2 c.self.invariant.0 in
    le_trans (le_of_eq (sym (ap room c.self.view_is))) (le_trans all (omega arith))
