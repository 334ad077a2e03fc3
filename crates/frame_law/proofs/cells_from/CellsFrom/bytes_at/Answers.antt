use Rattle.std.proofs.Common.{◌∙◌}
use Rattle.frame_law.proofs.Shifts.{data_bytes-drop}
use Rattle.frame_law.proofs.cells_from.CellsFrom.bytes_at.Goals as goal

pub returns : goal.returns
returns c =
    rw (← c.self.view_is)
    (c.data_bytes_at.ensures ∙ data_bytes-drop c.self.inside.place c.self.inside.cells.now.cells c.args.offset)
