use Rattle.std.proofs.Common.{replicate, Ok}
use Rattle.frame_law.specs.Writing.{AppendsCells}
use Rattle.ibm_fm.specs.Layout.{fm_bytes}
use Rattle.ibm_fm.proofs.rows.push_run.Given as goal

abbrev pub invariant-loop : goal.invariant-loop
invariant-loop l = AppendsCells l.initial.cells l.cells (fm_bytes (replicate l.counter l.byte)) (Ok tt)
