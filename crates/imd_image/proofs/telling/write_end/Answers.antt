use Rattle.std.proofs.Common.{◌≡◌, ◌∙◌, ap, sym}
use Rattle.flux_base.specs.lemmas.Parts.{Puts-then}
use Rattle.imd_image.specs.Lines.{asks_text}
use Rattle.imd_image.specs.Totals.{asks}
use Rattle.imd_image.proofs.telling.write_end.Goals as goal

pub returns-then-asks : goal.returns-then-asks
returns-then-asks g c =
    let text : c.asks_line.result.bytes ≡ asks_text (asks c.args.stepping c.args.totals.now) =
    c.asks_line.ensures ∙ ap asks_text (sym (sym c.asks.ensures ∙ c.if-asks.true)) in
    Puts-then c.write_line.result c.in-Ok.ensures (rw text at c.write_line.ensures)
