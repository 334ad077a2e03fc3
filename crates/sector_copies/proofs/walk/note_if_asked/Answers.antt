use Rattle.std.proofs.Common.{arith}
use Rattle.sector_copies.proofs.Walks.{other_noted, this_noted}
use Rattle.sector_copies.proofs.walk.note_if_asked.Goals as goal

pub returns-then-sector-clause-noted : goal.returns-then-sector-clause-noted
returns-then-sector-clause-noted g c = λ found are.
    this_noted c.args.notes.now c.note_header.new.notes c.args.sector c.args.place found (omega (arith, c.if-sector.true, c.sector.ensures)) (c.note_header.ensures.noted found are)

pub returns-else-sector-clause-noted : goal.returns-else-sector-clause-noted
returns-else-sector-clause-noted g c = λ found are.
    other_noted c.args.notes.now c.args.sector c.args.place found (λ same. omega (arith, same, c.if-sector.false, c.sector.ensures))
