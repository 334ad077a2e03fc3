use Rattle.flux_base.specs.lemmas.Parts.{Puts-cut, Puts-then}
use Rattle.flux_cli.specs.EmptyText.{empty_text, kind_text}
use Rattle.flux_cli.proofs.empty.write_empty.Goals as goal

pub returns-in-Ok : goal.returns-in-Ok
unfolding empty_text
returns-in-Ok g c = Puts-then c.write_kind.result (rw c.front_line.ensures at c.in-Ok.ensures) c.write_kind.ensures

pub returns-in-Err : goal.returns-in-Err
unfolding empty_text
returns-in-Err g c = Puts-cut (kind_text c.args.dump.now c.args.kind.now) (rw c.front_line.ensures at c.in-Err.ensures)
