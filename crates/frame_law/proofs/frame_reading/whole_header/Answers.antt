use Rattle.std.proofs.Common.{arith}
use Rattle.frame_law.proofs.frame_reading.whole_header.Goals as goal

pub returns-clause-near : goal.returns-clause-near
returns-clause-near g c =
    omega (
      arith,
      c.in_ok-end.ensures.some.0,
      (g.met.L.Layout.tells_ends c.args.layout.now).header_most c.args.frame.now,
      (g.met.L.Layout.reach c.args.layout.now).few,
    )
