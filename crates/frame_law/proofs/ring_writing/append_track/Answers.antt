use Rattle.std.proofs.Common.{◌++◌, [], refl}
use Rattle.std.specs.List.{flat_map, range_with_len}
use Rattle.frame_law.specs.lemmas.RowWritingLaws.{AppendsParts-more, AppendsParts-none, AppendsParts-stop}
use Rattle.track_rings.specs.Rows.{parts_of, sector_parts, track_parts}
use Rattle.frame_law.proofs.ring_writing.append_track.Goals as goal

pub returns-in_err-append_rows : goal.returns-in_err-append_rows
unfolding track_parts
returns-in_err-append_rows g c =
    let r = c.args.layout.now in
    let track = c.args.track in
    let table = g.L.Layout.rows r track in
    let first = g.L.Layout.lowest_sector r in
    let sectors = flat_map (sector_parts first (g.L.Layout.sector_bytes r) c.args.bytes.now table) (range_with_len first (g.L.Layout.sector_count r track)) in
    AppendsParts-stop g.L.Layout.asks (g.L.Layout.row_cells r track) (g.L.Layout.row_size r track) (g.met.L.Layout.row_length r track)
    c.args.cells.now c.args.cells.now c.append_rows.new.cells [] (parts_of first [] table.lead_in) (sectors ++ parts_of first [] table.lead_out) _ _ _
    c.from_residual.ensures.0
    (AppendsParts-none g.L.Layout.asks (g.L.Layout.row_cells r track) c.args.cells.now)
    (rw (c.lowest_sector-first.ensures, c.lead_in.ensures) at c.in_err-append_rows.ensures) refl

pub returns-in_err-append_sectors : goal.returns-in_err-append_sectors
unfolding track_parts
returns-in_err-append_sectors g c =
    let r = c.args.layout.now in
    let track = c.args.track in
    let table = g.L.Layout.rows r track in
    let first = g.L.Layout.lowest_sector r in
    let sectors = flat_map (sector_parts first (g.L.Layout.sector_bytes r) c.args.bytes.now table) (range_with_len first (g.L.Layout.sector_count r track)) in
    AppendsParts-stop g.L.Layout.asks (g.L.Layout.row_cells r track) (g.L.Layout.row_size r track) (g.met.L.Layout.row_length r track)
    c.args.cells.now c.append_rows.new.cells c.append_sectors.new.cells (parts_of first [] table.lead_in) sectors (parts_of first [] table.lead_out) _ _ _
    c.from_residual-in_err-append_sectors.ensures.0
    (rw (c.lowest_sector-first.ensures, c.lead_in.ensures) at c.in_ok-append_rows.ensures) c.in_err-append_sectors.ensures refl

pub returns : goal.returns
unfolding track_parts
returns g c =
    let r = c.args.layout.now in
    let track = c.args.track in
    let table = g.L.Layout.rows r track in
    let first = g.L.Layout.lowest_sector r in
    let sectors = flat_map (sector_parts first (g.L.Layout.sector_bytes r) c.args.bytes.now table) (range_with_len first (g.L.Layout.sector_count r track)) in
    AppendsParts-more g.L.Layout.asks (g.L.Layout.row_cells r track) c.args.cells.now c.append_rows.new.cells c.append_rows-2.new.cells
    (parts_of first [] table.lead_in) (sectors ++ parts_of first [] table.lead_out) c.append_rows-2.result
    (rw (c.lowest_sector-first.ensures, c.lead_in.ensures) at c.in_ok-append_rows.ensures)
    (AppendsParts-more g.L.Layout.asks (g.L.Layout.row_cells r track) c.append_rows.new.cells c.append_sectors.new.cells c.append_rows-2.new.cells
    sectors (parts_of first [] table.lead_out) c.append_rows-2.result c.in_ok-append_sectors.ensures
    (rw (c.lowest_sector-first.ensures, c.lead_out.ensures) at c.append_rows-2.ensures))
