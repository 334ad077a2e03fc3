use Rattle.phase_loop.proofs.CellCounts.{cells_are_few}
use Rattle.phase_loop.proofs.sizes.cells_are_few.Goals as goal

pub returns : goal.returns
returns c = cells_are_few
