use Rattle.std.proofs.Common.{ap, arith}
use Rattle.flux_base.specs.declared.track.TrackId.{TrackId}
use Rattle.dump_reading.proofs.TrackNumbers.{last-track}
use Rattle.dump_reading.proofs.beside.last_track.Goals as goal

pub returns-clause-cylinder : goal.returns-clause-cylinder
returns-clause-cylinder c =
    let is = c.track_id.ensures.track in
    let last = ap (λ (t : TrackId). t.cylinder) (last-track c.args.format c.track_id.result (rw c.track_count.ensures at c.track_id.ensures.at) is) in
    omega (arith, last, is.0)

pub returns-clause-head : goal.returns-clause-head
returns-clause-head c =
    let is = c.track_id.ensures.track in
    let last = ap (λ (t : TrackId). t.head) (last-track c.args.format c.track_id.result (rw c.track_count.ensures at c.track_id.ensures.at) is) in
    omega (arith, last, is.1)
