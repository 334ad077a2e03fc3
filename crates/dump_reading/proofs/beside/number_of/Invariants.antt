use Rattle.dump_reading.proofs.TrackNumbers.{NoneBefore}
use Rattle.dump_reading.proofs.beside.number_of.Given as goal

abbrev pub invariant-loop-number : goal.invariant-loop-number
invariant-loop-number l = NoneBefore l.format l.track l.number
