use Rattle.track_rings.specs.Rings.{IsSectorNumber}
use Rattle.frame_law.proofs.Names.{is_sector, no_sector}
use Rattle.frame_law.proofs.frame_reading.named_sector.Goals as goal

pub returns-clause-named : goal.returns-clause-named
returns-clause-named g c =
    let layout = c.args.layout.now in
    is_sector (g.L.Layout.names layout) (g.L.Layout.is_name_of layout c.args.track) (g.L.Layout.names_sector layout c.args.track)
    (g.met.L.Layout.named_sector layout c.args.track) (IsSectorNumber (g.L.Layout.lowest_sector layout) (g.L.Layout.sector_count layout c.args.track))
    c.args.frame.now c.in-Some.name c.in-Some.ensures.named c.sector_with_name.result c.sector_with_name.ensures.named

pub returns-clause-none : goal.returns-clause-none
returns-clause-none g c =
    let layout = c.args.layout.now in
    no_sector (g.L.Layout.names layout) (g.L.Layout.is_name_of layout c.args.track) (g.L.Layout.names_sector layout c.args.track)
    (g.met.L.Layout.named_sector layout c.args.track) (IsSectorNumber (g.L.Layout.lowest_sector layout) (g.L.Layout.sector_count layout c.args.track))
    c.args.frame.now c.in-Some.name (g.met.L.Layout.one_name layout c.args.frame.now) c.in-Some.ensures.named c.sector_with_name.result
    c.sector_with_name.ensures.none
