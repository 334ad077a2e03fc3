use Rattle.std.proofs.Common.{arith}
use Rattle.kryo_stream.proofs.Ends.{adds-both}
use Rattle.kryo_stream.proofs.bench.StreamBench.skip.Goals as goal

pub loop-preserved : goal.loop-preserved
loop-preserved c = adds-both c.loop.counter 1 0 _ c.loop.invariant c.skip_byte.ensures (omega arith)
