use Rattle.std.proofs.Common.{length, ap, arith}
use Rattle.std.proofs.lemmas.Grind.{common_steps}
use Rattle.cell_bits.specs.State.{CellsState}
use Rattle.cell_bits.proofs.Packing.{length-all}
use Rattle.cell_bits.proofs.cells.Cells.len.Goals as goal

pub returns-clause-length : goal.returns-clause-length
returns-clause-length c =
    let whole = length-all c.self.inside.words.items c.self.inside.filled c.self.inside.last in
    let seen = ap (λ (state : CellsState). length state.cells) c.self.view_is in
    grind (arith, common_steps, whole, seen)
