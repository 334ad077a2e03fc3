use Rattle.std.proofs.Common.{sym}
use Rattle.frame_law.specs.lemmas.RowWritingLaws.{AppendsParts-no_row, AppendsParts-none, AppendsParts-row}
use Rattle.frame_law.proofs.ring_writing.append_rows.Goals as goal

pub loop-row-init : goal.loop-row-init
loop-row-init g c =
    AppendsParts-none g.L.Layout.asks (g.L.Layout.row_cells c.args.layout.now c.args.track) c.args.cells.now

pub returns-in_err-append_row : goal.returns-in_err-append_row
returns-in_err-append_row g c =
    AppendsParts-no_row g.L.Layout.asks (g.L.Layout.row_cells c.args.layout.now c.args.track)
    (g.L.Layout.row_size c.args.layout.now c.args.track)
    (g.met.L.Layout.row_length c.args.layout.now c.args.track)
    c.args.cells.now c.loop-row.cells c.append_row.new.cells c.args.sector c.args.bytes.now c.args.rows.now c.loop-row.row-index c.row-item.result _ _
    c.from_residual.ensures.0 c.loop-row-test.true (sym c.row-item.is) c.loop-row.invariant c.in_err-append_row.ensures

pub loop-row-preserved : goal.loop-row-preserved
loop-row-preserved g c =
    AppendsParts-row g.L.Layout.asks (g.L.Layout.row_cells c.args.layout.now c.args.track)
    c.args.cells.now c.loop-row.cells c.append_row.new.cells c.args.sector c.args.bytes.now c.args.rows.now c.loop-row.row-index c.row-item.result
    c.loop-row-test.true (sym c.row-item.is) c.loop-row.invariant c.in_ok-append_row.ensures
