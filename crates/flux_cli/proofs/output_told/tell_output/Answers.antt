use Rattle.std.proofs.Common.{sym, ◌∙◌}
use Rattle.flux_cli.proofs.Telling.{told-line}
use Rattle.flux_cli.proofs.output_told.tell_output.Goals as goal

pub returns-then-is_told : goal.returns-then-is_told
returns-then-is_told g c =
    told-line _ _ _ c.write_whole.result (sym c.is_told.ensures ∙ c.if-is_told.true) (rw c.as_bytes.ensures.value at c.write_whole.ensures)
