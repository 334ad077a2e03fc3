use Rattle.std.proofs.Common.{inl, inr, rules}
use Rattle.flux_trial.proofs.Holes.{contains}
use Rattle.flux_trial.proofs.hole.Hole.contains.Goals.{then-cell-self, else-cell-self}
use Rattle.flux_trial.proofs.hole.Hole.contains.Goals as goal

pub returns : goal.returns
returns c = contains c.args.self.now c.requires.fits c.args.cell c.if-cell-self.offset c.requires.cell (elim c.if-cell-self.branch [
  | then-cell-self w ↦ inl (search rules, w.offset-is)
  | else-cell-self w ↦ inr (search rules, w.offset-is)
])
