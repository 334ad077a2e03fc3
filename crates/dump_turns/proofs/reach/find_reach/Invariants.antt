use Rattle.dump_turns.proofs.Reaching.{IsReachTo}
use Rattle.dump_turns.proofs.reach.find_reach.Given as goal

abbrev pub invariant-loop-number : goal.invariant-loop-number
invariant-loop-number g l = IsReachTo (g.H.Shelf.files l.shelf) l.dump l.number l.reach
