use Rattle.std.proofs.Common.{arith}
use Rattle.macintosh_gcr.specs.lemmas.ZoneLaws.{has_room}
use Rattle.macintosh_gcr.proofs.rows.zone_gap.Goals as goal

pub overflow_sub-rest : goal.overflow_sub-rest
overflow_sub-rest c = omega (arith, c.from.ensures, (has_room c.args.track c.macintosh_zone-zone.ensures).0)

pub overflow_cast-result : goal.overflow_cast-result
overflow_cast-result c =
    let room = has_room c.args.track c.macintosh_zone-zone.ensures in
    omega (arith, c.from.ensures, room.0, room.1)
