use Rattle.std.proofs.Common.{arith, sym, ◌∙◌}
use Rattle.sector_images.specs.declared.format.TrackOrder.TheVariants.{ByCylinder, ByHead}
use Rattle.sector_images.proofs.Computed.{keep_bounds, some_heads, track_by}
use Rattle.sector_images.proofs.places.track_id.Goals as goal

pub split-cylinder-requires-clause-some : goal.split-cylinder-requires-clause-some
split-cylinder-requires-clause-some c = rw c.geometry-geometry.ensures.heads (some_heads c.args.format).0

pub split-cylinder-requires-clause-few : goal.split-cylinder-requires-clause-few
split-cylinder-requires-clause-few c =
    let known = (track_by ByCylinder c.args.format c.args.number (sym c.track_order.ensures ∙ c.in-ByCylinder.is) c.requires).1 in
    rw c.geometry-geometry.ensures.heads (omega (arith, (keep_bounds c.args.format _ known).cylinder))

pub returns-in-ByCylinder-clause-at : goal.returns-in-ByCylinder-clause-at
returns-in-ByCylinder-clause-at c =
    rw (c.split-cylinder.ensures.often, c.split-cylinder.ensures.left, c.geometry-geometry.ensures.heads)
    (track_by ByCylinder c.args.format c.args.number (sym c.track_order.ensures ∙ c.in-ByCylinder.is) c.requires).0

pub returns-in-ByCylinder-clause-track : goal.returns-in-ByCylinder-clause-track
returns-in-ByCylinder-clause-track c =
    rw (c.split-cylinder.ensures.often, c.split-cylinder.ensures.left, c.geometry-geometry.ensures.heads)
    (track_by ByCylinder c.args.format c.args.number (sym c.track_order.ensures ∙ c.in-ByCylinder.is) c.requires).1

pub returns-in-ByHead-clause-at : goal.returns-in-ByHead-clause-at
returns-in-ByHead-clause-at c =
    rw (c.split-head.ensures.often, c.split-head.ensures.left, c.geometry-geometry.ensures.cylinders)
    (track_by ByHead c.args.format c.args.number (sym c.track_order.ensures ∙ c.in-ByHead.is) c.requires).0

pub returns-in-ByHead-clause-track : goal.returns-in-ByHead-clause-track
returns-in-ByHead-clause-track c =
    rw (c.split-head.ensures.often, c.split-head.ensures.left, c.geometry-geometry.ensures.cylinders)
    (track_by ByHead c.args.format c.args.number (sym c.track_order.ensures ∙ c.in-ByHead.is) c.requires).1
