use Rattle.flux_base.specs.lemmas.Parts.{Puts-then}
use Rattle.imd_image.proofs.telling.write_totals.Goals as goal

pub returns-in-Ok : goal.returns-in-Ok
returns-in-Ok g c = Puts-then c.write_line-in-Ok.result (rw c.sectors_line.ensures at c.in-Ok.ensures) (rw c.files_line.ensures at c.write_line-in-Ok.ensures)
