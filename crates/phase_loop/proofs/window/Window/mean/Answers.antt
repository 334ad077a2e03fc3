use Rattle.std.proofs.Common.{arith}
use Rattle.phase_loop.proofs.Windows.{bounded}
use Rattle.phase_loop.proofs.window.Window.mean.Goals as goal

pub quotient-requires-clause-total : goal.quotient-requires-clause-total
quotient-requires-clause-total c = (bounded _ _ _ c.self.invariant).fine

pub quotient-requires-clause-least : goal.quotient-requires-clause-least
quotient-requires-clause-least c =
    omega (arith, (bounded _ _ _ c.self.invariant).some, c.len.ensures.len, c.if-len-lt-INTERVALS.false)

pub quotient-requires-clause-largest : goal.quotient-requires-clause-largest
quotient-requires-clause-largest c = (bounded _ _ _ c.self.invariant).count
