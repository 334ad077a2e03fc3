use Rattle.phase_loop.proofs.Quotients.{quotient_by_reciprocal, reciprocal_at}
use Rattle.phase_loop.proofs.reciprocals.Reciprocals.quotient.Goals as goal

pub returns : goal.returns
returns c =
    rw (reciprocal_at c.args.self.now.table.items _ c.args.count c.args.self.now.exact c.requires.least c.requires.largest c.index-reciprocal.ensures)
    (quotient_by_reciprocal c.args.total c.args.count c.requires.total c.requires.least c.requires.largest)
