use Rattle.std.proofs.Common.{arith}
use Rattle.kryo_stream.proofs.Ends.{AreSkipped-row, adds-row, room_is}
use Rattle.kryo_stream.proofs.bench.StreamBench.note_row.Goals as goal

pub invariant_of-self : goal.invariant_of-self
invariant_of-self c =
    let room = rw (← c.self.view_is) at c.requires.room in (
      AreSkipped-row 0 c.self.inside.counted c.args.count c.self.inside.skipped.items c.self.invariant.0,
      omega (arith, room, room_is c.self.inside.counted _ c.self.inside.skipped.items c.self.invariant.0 c.self.invariant.1),
    )

pub returns : goal.returns
returns c =
    rw (← c.self.view_is)
    (adds-row c.self.inside.counted _ c.args.count c.self.inside.skipped.items _ _ _ _ c.self.invariant.0 c.self.invariant.1
    (rw (← c.self.view_is) at c.requires.room))
