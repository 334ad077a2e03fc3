use Rattle.std.proofs.Common.{◌<◌, arith, refl, ◌∙◌}
use Rattle.std.proofs.lemmas.List.{length-set}
use Rattle.std.specs.Int.Count.{count_leading_zeros}
use Rattle.cell_bits.proofs.Candidates.{cells-push, left-all, left-fewer, left-first}
use Rattle.cell_bits.proofs.cells.search.Rarer.of.Goals as goal

pub loop-init : goal.loop-init
loop-init c = record {
  whole = refl;
  few = omega arith;
  cells = λ index none. absurd (omega (arith, none));
  left = left-all c.args.word c.args.count c.equal_cells-left.result _ c.requires.most c.equal_cells-left.ensures;
}

pub loop-preserved : goal.loop-preserved
loop-preserved c =
    let so_far = c.loop.invariant in
    let below : count_leading_zeros 64 c.loop.left < c.args.count = omega (arith, c.if-offset-count.false) in
    let longer = length-set c.loop.offsets c.loop.many (count_leading_zeros 64 c.loop.left) in
    record {
      whole = longer ∙ so_far.whole;
      few = omega (arith, so_far.few);
      cells = cells-push c.args.word c.args.count (count_leading_zeros 64 c.loop.left) c.loop.many c.loop.offsets _ so_far.cells
          (omega (arith, so_far.whole, so_far.few, c.loop-test.true, c.requires.most)) below
          (left-first c.args.word c.args.count c.loop.left _ c.requires.most (omega arith) so_far.left (count_leading_zeros 64 c.loop.left) refl below);
      left = left-fewer c.args.word c.args.count c.loop.left _ _ so_far.left;
    }
