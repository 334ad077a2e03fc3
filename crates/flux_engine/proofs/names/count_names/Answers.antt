use Rattle.std.proofs.Common.{ap, arith, length, refl}
use Rattle.flux_engine.specs.Room.{RoomState}
use Rattle.flux_engine.proofs.LoopSteps.{counts_below, counts_track}
use Rattle.flux_engine.proofs.names.count_names.Goals as goal

pub returns-clause-below : goal.returns-clause-below
returns-clause-below c = λ n below.
    let same = ap (λ (r : RoomState). length r.passed) c.count_track.ensures in
    counts_below c.args.room.now c.count_track.new.self n
    (counts_track c.args.room.now c.args.room.now c.count_track.new.self refl refl refl refl c.count_track.ensures) (omega (arith, same, c.requires.few)) below
