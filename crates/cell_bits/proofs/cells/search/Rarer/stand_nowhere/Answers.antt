use Rattle.std.proofs.Common.{◌+◌, arith}
use Rattle.cell_bits.proofs.Candidates.{rarer-all, rarer-more, rarer-none}
use Rattle.cell_bits.proofs.cells.search.Rarer.stand_nowhere.Goals as goal

pub loop-index-init : goal.loop-index-init
loop-index-init c k within stand = rarer-all k within

pub returns-then-places-eq0 : goal.returns-then-places-eq0
returns-then-places-eq0 c truth =
    rarer-none c.args.high c.args.low c.args.self.now.offsets c.args.self.now.one (c.loop-index.index + 1) c.args.self.now.many _ (omega (arith, c.loop-index-test.true)) c.if-places-eq0.true
    (rarer-more c.args.high c.args.low c.args.self.now.offsets c.args.self.now.one c.loop-index.index c.loop-index.places _ _ c.loop-index.invariant c.joined-cells.ensures c.equal_cells-places.ensures)

pub loop-index-preserved : goal.loop-index-preserved
loop-index-preserved c =
    rarer-more c.args.high c.args.low c.args.self.now.offsets c.args.self.now.one c.loop-index.index c.loop-index.places _ _ c.loop-index.invariant c.joined-cells.ensures c.equal_cells-places.ensures
