use Rattle.cell_bits.proofs.Joining.{joined-shifted}
use Rattle.std.proofs.Common.{arith}
use Rattle.cell_bits.proofs.cells.joined.Goals as goal

pub returns-else-shift-eq0 : goal.returns-else-shift-eq0
returns-else-shift-eq0 c = joined-shifted c.args.high c.args.low c.args.shift (omega arith) (omega arith) (omega arith) (omega arith)
