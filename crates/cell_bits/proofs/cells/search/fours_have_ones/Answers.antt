use Rattle.std.proofs.lemmas.Bool.{eqb-true}
use Rattle.cell_bits.proofs.Dense.{fours-told}
use Rattle.cell_bits.proofs.cells.search.fours_have_ones.Goals as goal

pub returns : goal.returns
returns c sure = fours-told c.args.block (eqb-true _ _ sure)
