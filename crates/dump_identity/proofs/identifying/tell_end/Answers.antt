use Rattle.flux_base.specs.lemmas.Parts.{Puts-then}
use Rattle.dump_identity.proofs.identifying.tell_end.Goals as goal

pub returns-in-Ok : goal.returns-in-Ok
returns-in-Ok g c = Puts-then c.write_line.result c.in-Ok.ensures (rw c.best_line.ensures at c.write_line.ensures)
