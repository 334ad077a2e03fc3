use Rattle.std.proofs.Common.{Ok}
use Rattle.std.specs.List.{flat_map, range_with_len}
use Rattle.frame_law.specs.inside.RowWriting.{AppendsParts}
use Rattle.track_rings.specs.Rows.{sector_parts}
use Rattle.frame_law.proofs.ring_writing.append_sectors.Given as goal

abbrev pub invariant-loop-index : goal.invariant-loop-index
invariant-loop-index g l =
    AppendsParts g.L.Layout.asks (g.L.Layout.row_cells l.layout l.track) l.initial.cells l.cells
    (flat_map (sector_parts (g.L.Layout.lowest_sector l.layout) (g.L.Layout.sector_bytes l.layout) l.bytes (g.L.Layout.rows l.layout l.track))
    (range_with_len (g.L.Layout.lowest_sector l.layout) l.index)) (Ok tt)
