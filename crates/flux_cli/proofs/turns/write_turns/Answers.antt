use Rattle.std.proofs.Common.{◌≡◌, ◌-◌, length, ap, ◌∙◌}
use Rattle.flux_base.specs.lemmas.Parts.{Puts-cut, Puts-then}
use Rattle.sector_report.specs.Lines.{transitions_text}
use Rattle.flux_cli.specs.Turns.{turn_lines}
use Rattle.flux_cli.proofs.turns.write_turns.Goals as goal

pub returns-in-Ok : goal.returns-in-Ok
returns-in-Ok g c =
    let line : c.transitions_line-line.result.bytes ≡ transitions_text (length c.args.flux.now.times) =
    c.transitions_line-line.ensures ∙ ap (λ times. transitions_text (length times)) c.times.ensures.value in
    Puts-then c.write_turn_lines.result (rw line at c.in-Ok.ensures) c.write_turn_lines.ensures

pub returns-in-Err : goal.returns-in-Err
returns-in-Err g c =
    let lines = turn_lines c.args.flux.now.indexes (length c.args.flux.now.indexes - 1) in
    let line : c.transitions_line-line.result.bytes ≡ transitions_text (length c.args.flux.now.times) =
    c.transitions_line-line.ensures ∙ ap (λ times. transitions_text (length times)) c.times.ensures.value in
    Puts-cut lines (rw line at c.in-Err.ensures)
