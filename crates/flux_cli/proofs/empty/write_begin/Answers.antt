use Rattle.std.specs.Prelude.{◌++◌, codes}
use Rattle.flux_base.specs.lemmas.Parts.{Puts-cut, Puts-then}
use Rattle.flux_cli.proofs.empty.write_begin.Goals as goal

pub returns-in-Ok : goal.returns-in-Ok
returns-in-Ok g c = Puts-then c.write_prefix.result (rw c.as_bytes.ensures.value at c.in-Ok.ensures) c.write_prefix.ensures

pub returns-in-Err : goal.returns-in-Err
returns-in-Err g c = Puts-cut (c.args.prefix.now ++ codes "CC.H.raw: name one of them\n") (rw c.as_bytes.ensures.value at c.in-Err.ensures)
