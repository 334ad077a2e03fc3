use Rattle.frame_law.proofs.DataPlaces.{no_data-cut}
use Rattle.frame_law.proofs.data_search.next_data.Goals as goal

pub returns-in_err-header_end : goal.returns-in_err-header_end
returns-in_err-header_end g c =
    let layout = c.args.layout.now in
    rw c.from_residual.ensures (
      c.clear.ensures,
      λ place bytes above. no_data-cut g.L.Layout.CODING.sync g.L.Layout.CODING.sync_cells (g.L.Layout.header_end layout)
          (g.L.Layout.data_end layout c.args.size) (g.L.Layout.is_sync layout) (g.L.Layout.hold layout c.args.size) (g.L.Layout.names layout)
          c.args.frame.now (g.met.L.Layout.data_some layout c.args.size c.args.frame.now) c.in_err-header_end.ensures.none place bytes,
    )
