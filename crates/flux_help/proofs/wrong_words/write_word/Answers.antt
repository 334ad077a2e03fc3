use Rattle.flux_base.specs.lemmas.Parts.{Puts-cut, Puts-then}
use Rattle.flux_help.proofs.wrong_words.write_word.Goals as goal

pub returns-in-Ok : goal.returns-in-Ok
returns-in-Ok g c = Puts-then c.write_line.result c.in-Ok.ensures c.write_line.ensures

pub returns-in-Err : goal.returns-in-Err
returns-in-Err g c = Puts-cut c.args.ending.now.bytes c.in-Err.ensures
