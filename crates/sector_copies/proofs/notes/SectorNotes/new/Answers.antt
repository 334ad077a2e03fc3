use Rattle.std.proofs.Common.{sym, ◌∙◌}
use Rattle.sector_copies.proofs.Noting.{no_copies}
use Rattle.sector_copies.proofs.notes.SectorNotes.new.Goals as goal

pub returns-clause-none : goal.returns-clause-none
returns-clause-none c = record { book = c.in_ok-book.ensures.empty; copies = c.in_ok-copies.ensures ∙ sym no_copies }
