use Rattle.std.proofs.Common.{◌<◌, subst, ◌∙◌}
use Rattle.frame_law.specs.lemmas.RowWritingLaws.{AppendsParts-no_sector, AppendsParts-none, AppendsParts-sector}
use Rattle.track_rings.specs.Rows.{sector_parts}
use Rattle.frame_law.proofs.RowWrites.{sector_parts-at}
use Rattle.frame_law.proofs.ring_writing.append_sectors.Goals as goal

pub loop-index-init : goal.loop-index-init
loop-index-init g c =
    AppendsParts-none g.L.Layout.asks (g.L.Layout.row_cells c.args.layout.now c.args.track) c.args.cells.now

pub returns-in_err-append_rows : goal.returns-in_err-append_rows
returns-in_err-append_rows g c =
    let r = c.args.layout.now in
    let track = c.args.track in
    let sector =
    sector_parts-at (g.L.Layout.lowest_sector r) (g.L.Layout.sector_bytes r) c.args.bytes.now (g.L.Layout.rows r track) c.loop-index.index
    c.lowest_sector-first.ensures c.from.ensures (c.from-size.ensures ∙ c.sector_bytes.ensures.is) c.sector_rows-rows.ensures in
    AppendsParts-no_sector g.L.Layout.asks (g.L.Layout.row_cells r track) (g.L.Layout.row_size r track) (g.met.L.Layout.row_length r track)
    c.args.cells.now c.loop-index.cells c.append_rows.new.cells (sector_parts (g.L.Layout.lowest_sector r) (g.L.Layout.sector_bytes r) c.args.bytes.now (g.L.Layout.rows r track))
    (g.L.Layout.lowest_sector r) (g.L.Layout.sector_count r track) c.loop-index.index _ _
    c.from_residual.ensures.0 (subst (λ n. c.loop-index.index < n) c.sector_count-index-end.ensures c.loop-index-test.true) c.loop-index.invariant
    (rw sector at c.in_err-append_rows.ensures)

pub loop-index-preserved : goal.loop-index-preserved
loop-index-preserved g c =
    let r = c.args.layout.now in
    let track = c.args.track in
    let sector =
    sector_parts-at (g.L.Layout.lowest_sector r) (g.L.Layout.sector_bytes r) c.args.bytes.now (g.L.Layout.rows r track) c.loop-index.index
    c.lowest_sector-first.ensures c.from.ensures (c.from-size.ensures ∙ c.sector_bytes.ensures.is) c.sector_rows-rows.ensures in
    AppendsParts-sector g.L.Layout.asks (g.L.Layout.row_cells r track)
    c.args.cells.now c.loop-index.cells c.append_rows.new.cells (sector_parts (g.L.Layout.lowest_sector r) (g.L.Layout.sector_bytes r) c.args.bytes.now (g.L.Layout.rows r track))
    (g.L.Layout.lowest_sector r) c.loop-index.index
    c.loop-index.invariant (rw sector at c.in_ok-append_rows.ensures)
