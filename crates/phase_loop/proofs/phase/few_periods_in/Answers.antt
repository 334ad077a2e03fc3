use Rattle.std.proofs.Common.{arith}
use Rattle.phase_loop.proofs.Quotients.{periods_by_comparisons}
use Rattle.phase_loop.proofs.phase.few_periods_in.Goals as goal

pub returns-clause-nearest : goal.returns-clause-nearest
returns-clause-nearest c =
    rw (c.from.ensures, c.from-2.ensures, c.from-3.ensures)
    (periods_by_comparisons c.args.way c.args.period (omega (arith, c.requires.few)) c.requires.few)
