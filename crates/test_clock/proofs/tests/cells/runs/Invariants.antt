use Rattle.std.proofs.Common.{All}
use Rattle.cell_bits.specs.Run.{IsRun}
use Rattle.test_clock.proofs.tests.cells.runs.Given as goal

abbrev pub invariant-loop : goal.invariant-loop
invariant-loop l = All IsRun l.counts.items
