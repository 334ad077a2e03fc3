use Rattle.std.proofs.Common.{sym, ◌∙◌}
use Rattle.frame_law.proofs.Shifts.{data_byte-drop}
use Rattle.frame_law.proofs.cells_from.CellsFrom.byte_at.Goals as goal

pub returns : goal.returns
returns c =
    rw (← c.self.view_is)
    (c.data_byte_at.ensures ∙ sym (data_byte-drop c.self.inside.place c.self.inside.cells.now.cells c.args.offset))
