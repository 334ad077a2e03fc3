use Rattle.std.specs.Prelude.{◌++◌, codes}
use Rattle.flux_base.specs.lemmas.Parts.{Puts-cut, Puts-then}
use Rattle.flux_cli.proofs.empty.write_named.Goals as goal

pub returns-in-Ok : goal.returns-in-Ok
returns-in-Ok g c = Puts-then c.write_begin.result c.in-Ok.ensures c.write_begin.ensures

pub returns-in-Err : goal.returns-in-Err
returns-in-Err g c = Puts-cut (codes " has files " ++ (c.args.prefix.now ++ codes "CC.H.raw: name one of them\n")) c.in-Err.ensures
