use Rattle.std.proofs.Common.{◌≡◌, ◌++◌, List, Bool, subst}
use Rattle.std.specs.Result.{OnOk}
use Rattle.cell_bits.proofs.Appending.{run-is, one-fits}
use Rattle.cell_bits.proofs.cells.Cells.push_run.Goals as goal

pub append-requires-clause-fits : goal.append-requires-clause-fits
append-requires-clause-fits c = one-fits c.args.count c.requires.some

pub returns-clause-cells : goal.returns-clause-cells
returns-clause-cells c =
    subst (λ (added : List Bool). OnOk c.append.result (c.append.new.self.cells ≡ c.args.self.now.cells ++ added)) (run-is c.args.count c.requires.some) c.append.ensures.cells
