use Rattle.std.proofs.Common.{◌/◌, arith}
use Rattle.cell_bits.proofs.Dense.{dense-block, dense-more, dense-unbroken}
use Rattle.cell_bits.proofs.cells.Cells.is_dense.Goals as goal

pub loop-index-init : goal.loop-index-init
loop-index-init c n above below = absurd (omega (arith, above, below))

pub loop-index-preserved : goal.loop-index-preserved
loop-index-preserved c =
    dense-more c.args.self.now.cells (c.args.from / 64) c.loop-index.index c.loop-index.invariant
    (dense-block c.args.self.now.cells c.loop-index.index c.block.result c.block.ensures (c.fours_have_ones.ensures c.if-not-fours_have_ones.false))

pub returns : goal.returns
returns c sure =
    dense-unbroken c.args.self.now.cells c.args.from c.args.to
    (λ n above below. c.loop-index.invariant n above (omega (arith, below, c.loop-index-test.false)))
