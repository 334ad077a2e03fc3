use Rattle.std.proofs.Common.{List, subst}
use Rattle.std.specs.Prelude.{flat_map}
use Rattle.flux_base.specs.Moments.{Puts}
use Rattle.flux_base.specs.World.{sink_at}
use Rattle.flux_base.specs.lemmas.Parts.{Puts-then}
use Rattle.scp_notes.specs.Files.{Notes}
use Rattle.scp_notes.specs.Lines.{early_text, notes_text}
use Rattle.scp_notes.specs.declared.early.EarlyEnd.{EarlyEnd}
use Rattle.scp_notes.proofs.lines.write_notes.Goals as goal

pub returns-in-Ok : goal.returns-in-Ok
returns-in-Ok g c =
    subst (λ (n : Notes). Puts (sink_at g.N.Sink c.args.sink.now) (sink_at g.N.Sink c.write_ends.new.sink) (notes_text c.args.dump n) c.write_ends.result)
    c.notes.view_is
    (Puts-then c.write_ends.result c.in-Ok.ensures
    (subst (λ (es : List EarlyEnd). Puts (sink_at g.N.Sink c.write_sums.new.sink) (sink_at g.N.Sink c.write_ends.new.sink) (flat_map (early_text c.args.dump) es)
    c.write_ends.result) c.as_slice.ensures.value c.write_ends.ensures))
