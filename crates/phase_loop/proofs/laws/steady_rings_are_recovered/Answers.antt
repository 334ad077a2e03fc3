use Rattle.phase_loop.proofs.RingLaws.{steady_ring_recovered, steady_pieces_recovered, steady_turns_recovered}
use Rattle.phase_loop.proofs.laws.steady_rings_are_recovered.Goals as goal

pub returns-clause-ring : goal.returns-clause-ring
returns-clause-ring c = steady_ring_recovered

pub returns-clause-pieces : goal.returns-clause-pieces
returns-clause-pieces c = steady_pieces_recovered

pub returns-clause-turns : goal.returns-clause-turns
returns-clause-turns c = steady_turns_recovered
