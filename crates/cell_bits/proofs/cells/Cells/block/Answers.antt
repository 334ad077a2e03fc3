use Rattle.std.proofs.Common.{◌≡◌, ◌+◌, ◌*◌, ◌<◌, ◌≤◌, length, get_or, ap, arith}
use Rattle.std.proofs.lemmas.Grind.{common_steps}
use Rattle.cell_bits.specs.State.{CellsState}
use Rattle.cell_bits.proofs.Packing.{whole-window, last-window, past-window}
use Rattle.cell_bits.proofs.cells.Cells.block.Goals as goal

pub returns-in-Some : goal.returns-in-Some
returns-in-Some c =
    let within : c.args.index < length c.self.inside.words.items = grind (arith, common_steps) in
    let same : get_or c.self.inside.words.items c.args.index 0 ≡ c.in-Some.word.now = grind (arith, common_steps) in
    whole-window _ _ _ _ (ap (λ (s : CellsState). s.cells) c.self.view_is) c.args.index c.in-Some.word.now within same

pub returns-in-None : goal.returns-in-None
returns-in-None c =
    let at : c.args.index ≡ length c.self.inside.words.items = grind (arith, common_steps) in
    last-window _ _ _ _ (ap (λ (s : CellsState). s.cells) c.self.view_is) c.args.index c.self.invariant.0 c.self.invariant.1 at

pub returns-in-None-2 : goal.returns-in-None-2
returns-in-None-2 c =
    let past : 64 * length c.self.inside.words.items + c.self.inside.filled ≤ 64 * c.args.index = grind (arith, common_steps) in
    past-window _ _ _ _ (ap (λ (s : CellsState). s.cells) c.self.view_is) c.args.index past

pub returns-in-None-2-2 : goal.returns-in-None-2-2
returns-in-None-2-2 c =
    let past : 64 * length c.self.inside.words.items + c.self.inside.filled ≤ 64 * c.args.index = grind (arith, common_steps) in
    past-window _ _ _ _ (ap (λ (s : CellsState). s.cells) c.self.view_is) c.args.index past
