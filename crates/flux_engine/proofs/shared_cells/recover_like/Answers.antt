use Rattle.std.proofs.Common.{subst, sym}
use Rattle.flux_engine.specs.Gathering.{AreCellsOf}
use Rattle.flux_engine.proofs.RecoveredCells.{are_cells}
use Rattle.flux_engine.proofs.shared_cells.recover_like.Goals as goal

pub returns-clause-recovered : goal.returns-clause-recovered
returns-clause-recovered c = record {
  starts = c.requires.start;
  cells_are = c.in-Ok.ensures.ok;
  are = subst (AreCellsOf c.args.flux.now.times) (sym c.in-Ok.ensures.ok) (are_cells c.args.start c.args.flux.now.times c.requires.bounded.few_times);
}
