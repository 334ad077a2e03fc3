use Rattle.std.proofs.Common.{◌≡◌, ◌+◌, take, ap, ◌∙◌, arith}
use Rattle.cell_bits.specs.Ones.{ones, ones_from_to}
use Rattle.cell_bits.proofs.Windows.{ones-more, ones-bound, ones-walk}
use Rattle.cell_bits.proofs.cells.Cells.ones_between.Goals as goal

pub overflow_add-total : goal.overflow_add-total
overflow_add-total c =
    let more = ones-more c.args.self.now.cells c.args.from c.loop-place.place c.window.result c.min-count.result c.loop-place.total c.loop-place.invariant.ahead
    c.loop-place.invariant.counted c.window.ensures (omega arith) (omega arith) (omega arith) in
    omega (arith, more, ones-bound c.args.self.now.cells c.args.from (c.loop-place.place + c.min-count.result))

pub loop-place-preserved : goal.loop-place-preserved
loop-place-preserved c = record {
  ahead = omega arith;
  within = omega arith;
  counted = ones-more c.args.self.now.cells c.args.from c.loop-place.place c.window.result c.min-count.result c.loop-place.total c.loop-place.invariant.ahead
      c.loop-place.invariant.counted c.window.ensures (omega arith) (omega arith) (omega arith);
}

pub returns-clause-walk : goal.returns-clause-walk
returns-clause-walk c =
    let end : c.loop-place.place ≡ c.args.to = omega arith in
    ap (λ n. ones (take c.args.from c.args.self.now.cells) + n)
    (c.loop-place.invariant.counted ∙ ap (λ to. ones_from_to c.args.self.now.cells c.args.from to) end)
    ∙ ones-walk c.args.self.now.cells c.args.from c.args.to c.requires.order
