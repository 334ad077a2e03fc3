use Rattle.std.proofs.Common.{◌≡◌, ◌+◌, ◌/◌, ◌<◌, length, get_or, ap, arith}
use Rattle.std.proofs.lemmas.Grind.{common_steps}
use Rattle.cell_bits.specs.State.{CellsState}
use Rattle.cell_bits.proofs.Joining.{window-split}
use Rattle.cell_bits.proofs.Packing.{whole-window}
use Rattle.cell_bits.proofs.cells.Cells.window.Goals as goal

pub returns-then-index-len : goal.returns-then-index-len
returns-then-index-len c =
    let second_within : c.args.place / 64 + 1 < length c.self.inside.words.items = grind (arith, common_steps) in
    let first_within : c.args.place / 64 < length c.self.inside.words.items = omega (arith, second_within) in
    let first : get_or c.self.inside.words.items (c.args.place / 64) 0 ≡ c.index.result.now = grind (arith, common_steps) in
    let second : get_or c.self.inside.words.items (c.args.place / 64 + 1) 0 ≡ c.index-then-index-len.result.now = grind (arith, common_steps) in
    let seen = ap (λ (s : CellsState). s.cells) c.self.view_is in
    window-split _ _ _ _ _ (whole-window _ _ _ _ seen (c.args.place / 64) c.index.result.now first_within first)
    (whole-window _ _ _ _ seen (c.args.place / 64 + 1) c.index-then-index-len.result.now second_within second) c.joined.ensures

pub returns : goal.returns
returns c = window-split _ _ _ _ _ c.block.ensures c.block-2.ensures c.joined-2.ensures
