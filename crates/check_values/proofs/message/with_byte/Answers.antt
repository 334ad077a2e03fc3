use Rattle.std.proofs.Common.{arith}
use Rattle.check_values.proofs.Remainders.{by_table}
use Rattle.check_values.proofs.message.with_byte.Goals as goal

pub returns : goal.returns
returns c = by_table c.args.remainder c.args.byte (omega arith) (omega arith)
