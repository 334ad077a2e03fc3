use Rattle.std.proofs.Common.{◌++◌}
use Rattle.flux_base.specs.lemmas.Parts.{Puts-cut, Puts-then}
use Rattle.flux_help.specs.Pages.{formats_text}
use Rattle.flux_help.specs.declared.texts.TheConstants.{CODES}
use Rattle.flux_help.proofs.writing.write_headed_tables.Goals as goal

pub returns-in-Ok : goal.returns-in-Ok
returns-in-Ok g c = Puts-then c.write_tables.result (rw c.as_bytes.ensures.value at c.in-Ok.ensures) c.write_tables.ensures

pub returns-in-Err : goal.returns-in-Err
returns-in-Err g c = Puts-cut (formats_text ++ CODES.now) (rw c.as_bytes.ensures.value at c.in-Err.ensures)
