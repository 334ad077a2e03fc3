use Rattle.std.proofs.Common.{sym, ◌∙◌}
use Rattle.frame_law.proofs.Shifts.{word-drop}
use Rattle.frame_law.proofs.cells_from.CellsFrom.word_at.Goals as goal

pub returns : goal.returns
returns c =
    rw (← c.self.view_is)
    (c.word_at.ensures ∙ sym (word-drop c.self.inside.place c.self.inside.cells.now.cells c.args.offset c.args.count))
