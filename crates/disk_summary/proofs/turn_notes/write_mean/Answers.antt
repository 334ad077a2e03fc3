use Rattle.std.proofs.Common.{ℕ, List, Option, sym, ap, subst, ◌∙◌, append-nil}
use Rattle.flux_base.specs.Moments.{Puts}
use Rattle.flux_base.specs.World.{sink_at}
use Rattle.disk_summary.specs.Texts.{note_text, notes_text}
use Rattle.disk_summary.specs.Turns.{notes_of_mean}
use Rattle.disk_summary.specs.declared.note.Note.TheVariants.{Uneven}
use Rattle.disk_summary.proofs.turn_notes.write_mean.Goals as goal

pub returns-in-Some : goal.returns-in-Some
returns-in-Some g c =
    subst (λ (text : List ℕ). Puts (sink_at g.N.Sink c.args.notes.now) (sink_at g.N.Sink c.write_line.new.sink) text c.write_line.result)
    (c.note_piece.ensures ∙ sym (append-nil (note_text (Uneven c.args.track c.args.dump c.in-Some.ticks)))
    ∙ sym (ap (λ (m : Option ℕ). notes_text (notes_of_mean c.args.track c.args.dump m)) c.in-Some.is))
    c.write_line.ensures
