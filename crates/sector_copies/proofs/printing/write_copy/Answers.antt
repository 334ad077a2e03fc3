use Rattle.flux_base.specs.lemmas.Parts.{Puts-then}
use Rattle.sector_copies.proofs.printing.write_copy.Goals as goal

pub returns-in-Ok : goal.returns-in-Ok
returns-in-Ok g c =
    Puts-then c.write_rows.result (rw (c.head_line.ensures, c.readings.ensures, c.first.ensures) at c.in-Ok.ensures) (rw (c.bytes.ensures.bytes, c.bytes-in-Ok.ensures.bytes) at c.write_rows.ensures)
