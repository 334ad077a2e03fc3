use Rattle.frame_law.proofs.Shifts.{unbroken-drop, drop-unbroken}
use Rattle.frame_law.proofs.cells_from.CellsFrom.unbroken_to.Goals as goal

pub returns : goal.returns
returns c =
    rw (← c.self.view_is)
    (λ yes. unbroken-drop _ _ _ (c.unbroken.ensures.0 yes), λ whole. c.unbroken.ensures.1 (drop-unbroken c.self.inside.place c.self.inside.cells.now.cells c.args.count whole))
