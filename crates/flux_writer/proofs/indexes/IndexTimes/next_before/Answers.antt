use Rattle.std.proofs.Common.{Some, sym, ap, ◌∙◌, arith}
use Rattle.flux_writer.specs.inside.Writing.{first_or_never}
use Rattle.flux_writer.proofs.Steps.{count_before-none, first-before}
use Rattle.flux_writer.proofs.indexes.IndexTimes.next_before.Goals as goal

pub returns-then-self-end-clause-some : goal.returns-then-self-end-clause-some
returns-then-self-end-clause-some c =
    let next = c.self.invariant.1 ∙ ap first_or_never c.self.view_is in
    (first-before c.args.end c.args.self.now (omega arith) (omega (arith, next, c.if-self-end.true)) ∙ ap Some (sym next), c.if-self-end.true)

pub returns-else-self-end-clause-none : goal.returns-else-self-end-clause-none
returns-else-self-end-clause-none c =
    let next = c.self.invariant.1 ∙ ap first_or_never c.self.view_is in
    count_before-none c.args.end c.args.self.now (omega (arith, next, c.if-self-end.false))
