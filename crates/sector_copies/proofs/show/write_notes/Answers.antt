use Rattle.flux_base.specs.lemmas.Parts.{Puts-then}
use Rattle.sector_copies.proofs.show.write_notes.Goals as goal

pub returns-in-Ok : goal.returns-in-Ok
returns-in-Ok g c = Puts-then c.write_line_alone.result (rw (c.track.ensures.is, c.passed.ensures.are) at c.in-Ok.ensures) c.write_line_alone.ensures
