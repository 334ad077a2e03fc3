use Rattle.flux_base.specs.lemmas.Parts.{Puts-cut, Puts-then}
use Rattle.flux_help.specs.Verbs.{verb_texts}
use Rattle.flux_help.proofs.writing.write_about.Goals as goal

pub returns-in-Ok : goal.returns-in-Ok
returns-in-Ok g c = Puts-then c.write_whole-in-Ok.result (rw (c.as_bytes.ensures.value, c.texts-texts.ensures.usage) at c.in-Ok.ensures) (rw (c.as_bytes-in-Ok.ensures.value, c.texts-texts.ensures.about) at c.write_whole-in-Ok.ensures)

pub returns-in-Err : goal.returns-in-Err
returns-in-Err g c = Puts-cut (verb_texts c.args.verb).about.now (rw (c.as_bytes.ensures.value, c.texts-texts.ensures.usage) at c.in-Err.ensures)
