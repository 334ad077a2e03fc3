use Rattle.std.proofs.Common.{arith}
use Rattle.amiga_mfm.proofs.Nibbles.{nibble-is}
use Rattle.amiga_mfm.proofs.half.data_nibble.Goals as goal

pub returns-clause-cells : goal.returns-clause-cells
returns-clause-cells c = nibble-is c.args.cells (omega arith)
