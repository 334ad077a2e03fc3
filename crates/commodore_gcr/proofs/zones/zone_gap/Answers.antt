use Rattle.std.proofs.Common.{ap, arith}
use Rattle.disk_zones.specs.declared.zones.Zone.{Zone}
use Rattle.commodore_gcr.specs.lemmas.ZoneLaws.{counts, has_room}
use Rattle.commodore_gcr.proofs.zones.zone_gap.Goals as goal

pub nonzero_div-each : goal.nonzero_div-each
nonzero_div-each c =
    omega (arith, c.from.ensures, ap (λ (zone : Zone). zone.sectors) c.zone_of-zone.ensures, (counts c.args.drive c.args.track).0)

pub overflow_sub-result : goal.overflow_sub-result
overflow_sub-result c = rw (c.from.ensures, c.zone_of-zone.ensures) (has_room c.args.drive c.args.track).0

pub overflow_cast-result : goal.overflow_cast-result
overflow_cast-result c =
    rw (c.from.ensures, c.zone_of-zone.ensures)
    (omega (arith, (has_room c.args.drive c.args.track).1))
