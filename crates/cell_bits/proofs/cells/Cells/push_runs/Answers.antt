use Rattle.std.proofs.Common.{◌≡◌, ℕ, ◌≤◌, ◌++◌, List, Bool, length, take, vec_len, vec_capacity, arith, sym, ap, ◌∙◌, le_trans, le_of_eq}
use Rattle.std.proofs.lemmas.Grind.{common_steps}
use Rattle.std.proofs.lemmas.Result.{on_err_weaker}
use Rattle.cell_bits.specs.State.{CellsState, room}
use Rattle.cell_bits.proofs.Runs.{runs-few, runs-most}
use Rattle.cell_bits.proofs.Packing.{all_cells, taken_back, length-all, room-within}
use Rattle.cell_bits.proofs.cells.Cells.push_runs.Goals as goal

pub invariant_of-self : goal.invariant_of-self
invariant_of-self c =
    (c.self.invariant.0, c.self.invariant.1, omega (arith, c.truncate.ensures.len, c.self-2.invariant.2), c.forget.ensures _ _ c.self-2.invariant.3)

pub returns-then-is_err-clause-few : goal.returns-then-is_err-clause-few
returns-then-is_err-clause-few c = runs-few c.args.counts.now

pub returns-else-is_err-clause-few : goal.returns-else-is_err-clause-few
returns-else-is_err-clause-few c = runs-few c.args.counts.now

pub returns-then-is_err-clause-most : goal.returns-then-is_err-clause-most
returns-then-is_err-clause-most c = runs-most c.args.counts.now c.requires.runs

pub returns-else-is_err-clause-most : goal.returns-else-is_err-clause-most
returns-else-is_err-clause-most c = runs-most c.args.counts.now c.requires.runs

pub returns-then-is_err-clause-unchanged : goal.returns-then-is_err-clause-unchanged
returns-then-is_err-clause-unchanged c =
    let old : List ℕ = c.self.inside.words.items in
    let new : List ℕ = c.self-2.inside.words.items in
    let whole : c.len-words.result ≡ length old = grind (arith, common_steps) in
    on_err_weaker c.push_blocks-pushed.result
    (λ (part : (more : List Bool) × (c.push_blocks-pushed.new.self.cells ≡ c.args.self.now.cells ++ more)).
    let more : List Bool = part.0 in
    let before : all_cells old c.self.inside.filled c.self.inside.last ≡ c.args.self.now.cells = ap (λ (s : CellsState). s.cells) c.self.view_is in
    let after : all_cells new c.self-2.inside.filled c.self-2.inside.last ≡ all_cells old c.self.inside.filled c.self.inside.last ++ more =
    ap (λ (s : CellsState). s.cells) c.self-2.view_is ∙ part.1 ∙ ap (λ (cells : List Bool). cells ++ more) (sym before) in
    ap (λ items. all_cells items c.self.inside.filled c.self.inside.last) (c.truncate.ensures.items ∙ ap (λ n. take n new) whole)
    ∙ taken_back old new c.self.inside.filled c.self.inside.last c.self-2.inside.filled c.self-2.inside.last more c.self-2.invariant.0 after
    ∙ before) c.push_blocks-pushed.ensures.part

pub returns-then-is_err-clause-room : goal.returns-then-is_err-clause-room
returns-then-is_err-clause-room c =
    let new : List ℕ = c.self-2.inside.words.items in
    let whole : length new ≡ vec_len c.self-2.inside.words = grind (arith, common_steps) in
    let held : vec_len c.self-2.inside.words ≤ vec_capacity c.self-2.inside.words = grind (arith, common_steps) in
    let whole' : length c.truncate.new.self.items ≡ vec_len c.truncate.new.self = grind (arith, common_steps) in
    le_trans c.push_blocks-pushed.ensures.room
    (le_trans (le_of_eq (sym (ap room c.self-2.view_is)))
    (le_trans (room-within new c.self-2.inside.filled c.self-2.inside.last _ _ whole held c.self-2.invariant.2 c.self-2.invariant.0)
    (omega (arith, whole', c.truncate.ensures.capacity, length-all c.truncate.new.self.items c.self.inside.filled c.self.inside.last))))
