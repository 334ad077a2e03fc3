use Rattle.std.proofs.Common.{arith}
use Rattle.kryo_stream.proofs.Ends.{ends-count, room_is}
use Rattle.kryo_stream.proofs.bench.StreamBench.reserve_bytes.Goals as goal

pub overflow_sub-more : goal.overflow_sub-more
overflow_sub-more c =
    omega (
      arith,
      c.len.ensures,
      c.self.inside.skipped.ok.0,
      ends-count 0 c.self.inside.counted c.self.inside.skipped.items c.self.invariant.0,
    )

pub returns-in_err-try_reserve-clause-succeeds : goal.returns-in_err-try_reserve-clause-succeeds
returns-in_err-try_reserve-clause-succeeds c = λ room.
    let fits = rw (← c.self.view_is) at room in
    absurd (omega (
      arith,
      fits,
      c.in_err-try_reserve.ensures.full,
      c.len.ensures,
      c.self.inside.skipped.ok.0,
      ends-count 0 c.self.inside.counted c.self.inside.skipped.items c.self.invariant.0,
      room_is c.self.inside.counted _ c.self.inside.skipped.items c.self.invariant.0 c.self.invariant.1,
    ))
