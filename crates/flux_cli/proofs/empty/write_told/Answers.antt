use Rattle.flux_base.specs.lemmas.Parts.{Puts-cut, Puts-then}
use Rattle.flux_cli.proofs.empty.write_told.Goals as goal

pub returns-in-Ok : goal.returns-in-Ok
returns-in-Ok g c = Puts-then c.write_whole.result c.in-Ok.ensures (rw c.as_bytes.ensures.value at c.write_whole.ensures)

pub returns-in-Err : goal.returns-in-Err
returns-in-Err g c = Puts-cut c.args.text.now c.in-Err.ensures
