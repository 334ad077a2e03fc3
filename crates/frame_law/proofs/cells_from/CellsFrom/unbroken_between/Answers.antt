use Rattle.frame_law.proofs.Shifts.{between-drop, drop-between}
use Rattle.frame_law.proofs.cells_from.CellsFrom.unbroken_between.Goals as goal

pub returns : goal.returns
returns c =
    rw (← c.self.view_is)
    (λ yes. between-drop _ _ _ _ (c.unbroken.ensures.0 yes), λ whole. c.unbroken.ensures.1 (drop-between c.self.inside.place c.self.inside.cells.now.cells c.args.from c.args.to whole))
