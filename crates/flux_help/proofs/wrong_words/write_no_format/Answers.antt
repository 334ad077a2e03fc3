use Rattle.std.proofs.Common.{◌++◌}
use Rattle.flux_base.specs.lemmas.Parts.{Puts-cut, Puts-then}
use Rattle.flux_help.proofs.wrong_words.write_no_format.Goals as goal

pub returns-in-Ok : goal.returns-in-Ok
returns-in-Ok g c = Puts-then c.write_word.result (rw c.as_bytes.ensures.value at c.in-Ok.ensures) c.write_word.ensures

pub returns-in-Err : goal.returns-in-Err
returns-in-Err g c = Puts-cut (c.args.word.now ++ c.args.ending.now.bytes) (rw c.as_bytes.ensures.value at c.in-Err.ensures)
