use Rattle.std.proofs.Common.{arith}
use Rattle.cell_bits.proofs.Tables.{spread-is}
use Rattle.cell_bits.proofs.cells.pushes.spread.Goals as goal

pub returns : goal.returns
returns c = spread-is c.args.byte (omega arith)
