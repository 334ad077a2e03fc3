use Rattle.cell_bits.proofs.Candidates.{apart-ones}
use Rattle.cell_bits.proofs.cells.search.ones_apart.Goals as goal

pub returns : goal.returns
returns c = apart-ones c.args.high c.args.low c.args.apart c.joined.result c.requires c.joined.ensures
