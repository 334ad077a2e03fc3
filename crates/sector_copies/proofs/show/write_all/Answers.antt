use Rattle.flux_base.specs.lemmas.Parts.{Puts-then}
use Rattle.sector_copies.proofs.show.write_all.Goals as goal

pub returns-in-Ok : goal.returns-in-Ok
returns-in-Ok g c =
    Puts-then c.write_copies_and_line.result (rw (c.offset_line.ensures, c.image_place.ensures, c.size.ensures) at c.in-Ok.ensures) c.write_copies_and_line.ensures
