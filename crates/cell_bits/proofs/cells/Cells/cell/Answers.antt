use Rattle.cell_bits.proofs.Joining.{cell-split}
use Rattle.cell_bits.proofs.cells.Cells.cell.Goals as goal

pub returns : goal.returns
returns c = cell-split _ _ _ c.block.ensures
