use Rattle.std.proofs.Common.{arith}
use Rattle.cell_bits.proofs.Tables.{gathered-is, gathered-lt}
use Rattle.cell_bits.proofs.cells.reads.gathered_nibble.Goals as goal

pub returns-clause-cells : goal.returns-clause-cells
returns-clause-cells c = gathered-is c.args.cells (omega arith)

pub returns-clause-bound : goal.returns-clause-bound
returns-clause-bound c = gathered-lt c.args.cells (omega arith)
