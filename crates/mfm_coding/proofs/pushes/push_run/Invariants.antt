use Rattle.std.proofs.Common.{replicate, Ok}
use Rattle.mfm_coding.specs.Writes.{AppendsSymbols}
use Rattle.mfm_coding.proofs.pushes.push_run.Given as goal

abbrev pub invariant-loop : goal.invariant-loop
invariant-loop l = AppendsSymbols l.initial.cells l.cells (replicate l.counter l.symbol) (Ok tt)
