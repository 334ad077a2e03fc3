use Rattle.phase_loop.proofs.RingLaws.{ring_recovered, pieces_recovered, turns_recovered}
use Rattle.phase_loop.proofs.laws.disturbed_rings_are_recovered.Goals as goal

pub returns-clause-ring : goal.returns-clause-ring
returns-clause-ring c = ring_recovered

pub returns-clause-pieces : goal.returns-clause-pieces
returns-clause-pieces c = pieces_recovered

pub returns-clause-turns : goal.returns-clause-turns
returns-clause-turns c = turns_recovered
