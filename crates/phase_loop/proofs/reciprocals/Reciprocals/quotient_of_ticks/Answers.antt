use Rattle.phase_loop.proofs.Quotients.{ticks_by_reciprocal, reciprocal_at}
use Rattle.phase_loop.proofs.reciprocals.Reciprocals.quotient_of_ticks.Goals as goal

pub returns : goal.returns
returns c =
    rw (reciprocal_at c.args.self.now.table.items _ c.args.count c.args.self.now.exact c.requires.least c.requires.largest c.index-reciprocal.ensures)
    (ticks_by_reciprocal c.args.ticks c.args.count c.requires.ticks c.requires.least c.requires.largest)
