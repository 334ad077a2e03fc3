use Rattle.std.proofs.Common.{length}
use Rattle.flux_base.specs.Moments.{Wrote}
use Rattle.flux_base.specs.World.{sink_at}
use Rattle.flux_base.proofs.writing.write_whole.Given as goal

abbrev pub invariant-loop-rest : goal.invariant-loop-rest
invariant-loop-rest g l =
    Wrote (sink_at g.W.Sink l.initial.sink) (sink_at g.W.Sink l.sink) l.piece l.rest

abbrev pub decreases-loop-rest : goal.decreases-loop-rest
decreases-loop-rest g l = length l.rest
