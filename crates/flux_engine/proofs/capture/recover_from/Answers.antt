use Rattle.std.proofs.Common.{subst, sym}
use Rattle.flux_engine.specs.Gathering.{AreCellsOf}
use Rattle.flux_engine.proofs.RecoveredCells.{are_cells}
use Rattle.flux_engine.proofs.capture.recover_from.Goals as goal

pub returns-clause-are : goal.returns-clause-are
returns-clause-are c =
    subst (AreCellsOf c.args.flux.now.times) (sym c.in-Ok.ensures.ok) (are_cells c.args.start c.args.flux.now.times c.requires.bounded.few_times)
