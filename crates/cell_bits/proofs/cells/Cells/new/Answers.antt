use Rattle.std.proofs.Common.{ap, arith}
use Rattle.cell_bits.specs.Word.{word_cells}
use Rattle.cell_bits.proofs.Packing.{all_cells}
use Rattle.cell_bits.proofs.cells.Cells.new.Goals as goal

pub invariant_of-result : goal.invariant_of-result
invariant_of-result c = (omega arith, omega arith, omega (arith, c.new.ensures.len), c.new-2.ensures _)

pub returns : goal.returns
unfolding word_cells
returns c = ap (λ words. all_cells words 0 0) c.new.ensures.items
