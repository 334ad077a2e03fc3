use Rattle.flux_base.specs.lemmas.Parts.{Puts-then}
use Rattle.sector_copies.proofs.show.write_copies_and_line.Goals as goal

pub returns-in-Ok : goal.returns-in-Ok
returns-in-Ok g c = Puts-then c.write_sector_line.result (rw c.copies.ensures at c.in-Ok.ensures) c.write_sector_line.ensures
