use Rattle.std.proofs.Common.{arith}
use Rattle.kryo_stream.proofs.Ends.{room_is}
use Rattle.kryo_stream.proofs.bench.StreamBench.clear.Goals as goal

pub returns-clause-room : goal.returns-clause-room
returns-clause-room c =
    rw (← c.self.view_is)
    (record {
      for_ends = omega (
        arith,
        room_is c.self.inside.counted _ c.self.inside.skipped.items c.self.invariant.0 c.self.invariant.1,
        c.clear.ensures.capacity,
      );
      for_overflows = omega (arith, c.clear-2.ensures.capacity, c.clear-2.ensures.len, c.self.inside.overflows.ok.0, c.self.inside.overflows.ok.1);
      for_indexes = omega (arith, c.clear-3.ensures.capacity, c.clear-3.ensures.len, c.self.inside.indexes.ok.0, c.self.inside.indexes.ok.1);
    })
