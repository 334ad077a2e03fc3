use Rattle.std.proofs.Common.{Ok}
use Rattle.frame_law.specs.Writing.{AppendsCells}
use Rattle.commodore_gcr.specs.Layout.{gap_cells}
use Rattle.commodore_gcr.proofs.rows.push_gap.Given as goal

abbrev pub invariant-loop : goal.invariant-loop
invariant-loop l = AppendsCells l.initial.cells l.cells (gap_cells l.counter) (Ok tt)
