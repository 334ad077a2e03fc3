use Rattle.std.specs.Prelude.{codes}
use Rattle.flux_base.specs.lemmas.Parts.{Puts-cut, Puts-then}
use Rattle.flux_cli.proofs.empty.write_prefix.Goals as goal

pub returns-in-Ok : goal.returns-in-Ok
returns-in-Ok g c = Puts-then c.write_whole-in-Ok.result (rw (c.as_bytes.ensures.value, c.as_str.ensures) at c.in-Ok.ensures) (rw c.as_bytes-in-Ok.ensures.value at c.write_whole-in-Ok.ensures)

pub returns-in-Err : goal.returns-in-Err
returns-in-Err g c = Puts-cut (codes "CC.H.raw: name one of them\n") (rw (c.as_bytes.ensures.value, c.as_str.ensures) at c.in-Err.ensures)
