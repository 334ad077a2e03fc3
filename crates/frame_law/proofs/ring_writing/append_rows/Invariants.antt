use Rattle.std.proofs.Common.{take, Ok}
use Rattle.frame_law.specs.inside.RowWriting.{AppendsParts}
use Rattle.track_rings.specs.Rows.{parts_of}
use Rattle.frame_law.proofs.ring_writing.append_rows.Given as goal

abbrev pub invariant-loop-row : goal.invariant-loop-row
invariant-loop-row g l =
    AppendsParts g.L.Layout.asks (g.L.Layout.row_cells l.layout l.fn.track) l.initial.cells l.cells (parts_of l.sector l.bytes (take l.row-index l.rows)) (Ok tt)
