use Rattle.flux_base.specs.lemmas.Parts.{Puts-then}
use Rattle.disk_map.proofs.disk.write_top.Goals as goal

pub returns-in-Ok : goal.returns-in-Ok
returns-in-Ok g c =
    Puts-then c.write_grids.result (rw (c.begin_text.ensures, c.of_format-layout.ensures) at c.in-Ok.ensures) (rw c.of_format-layout.ensures at c.write_grids.ensures)
