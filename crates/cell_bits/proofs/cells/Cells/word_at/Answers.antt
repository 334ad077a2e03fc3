use Rattle.std.proofs.Common.{arith}
use Rattle.cell_bits.proofs.Windows.{word-is, word-lt}
use Rattle.cell_bits.proofs.cells.Cells.word_at.Goals as goal

pub returns : goal.returns
returns c = word-is _ _ _ c.args.count c.window.ensures (omega arith) (omega arith) c.requires.within

pub overflow_cast-result-3 : goal.overflow_cast-result-3
overflow_cast-result-3 c = omega (arith, word-lt c.window.result c.args.count (omega arith) (omega arith))
