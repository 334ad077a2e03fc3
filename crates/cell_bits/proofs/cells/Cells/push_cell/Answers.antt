use Rattle.std.proofs.Common.{◌≡◌, ◌++◌, List, Bool, subst}
use Rattle.std.specs.Result.{OnOk}
use Rattle.cell_bits.proofs.Appending.{cell-is}
use Rattle.cell_bits.proofs.cells.Cells.push_cell.Goals as goal

pub returns-clause-cells : goal.returns-clause-cells
returns-clause-cells c =
    subst (λ (added : List Bool). OnOk c.append.result (c.append.new.self.cells ≡ c.args.self.now.cells ++ added)) (cell-is c.args.cell) c.append.ensures.cells
