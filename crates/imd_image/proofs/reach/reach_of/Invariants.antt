use Rattle.imd_image.proofs.Reaching.{IsOwnTo}
use Rattle.imd_image.proofs.reach.reach_of.Given as goal

abbrev pub invariant-loop-number : goal.invariant-loop-number
invariant-loop-number g l = IsOwnTo (g.H.Shelf.files l.shelf) l.stepping l.dump l.number l.reach
