use Rattle.std.proofs.Common.{◌-◌, length}
use Rattle.kryo_stream.specs.inside.Keeping.{KeepsFlux}
use Rattle.kryo_stream.proofs.kept.keep_flux.Given as goal

abbrev pub invariant-loop-kept : goal.invariant-loop-kept
invariant-loop-kept l = KeepsFlux l.bytes l.before l.fn.flux l.kept.flux l.fn.bench l.kept.bench l.kept.place l.kept.time

abbrev pub decreases-loop-kept : goal.decreases-loop-kept
decreases-loop-kept l = length l.bytes - l.kept.place
