use Rattle.flux_base.specs.lemmas.Parts.{Puts-then}
use Rattle.dump_turns.proofs.telling.write_spread.Goals as goal

pub returns-in-Ok : goal.returns-in-Ok
returns-in-Ok g c = rw c.in-Some.is (Puts-then c.write_line.result c.in-Ok.ensures (rw c.spread_line.ensures at c.write_line.ensures))
