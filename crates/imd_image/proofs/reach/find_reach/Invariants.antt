use Rattle.imd_image.proofs.Reaching.{IsReachTo}
use Rattle.imd_image.proofs.reach.find_reach.Given as goal

abbrev pub invariant-loop-dump : goal.invariant-loop-dump
invariant-loop-dump g l = IsReachTo (g.H.Shelf.files l.shelf) l.dumps.stepping l.dumps.names.now l.dump l.reach
