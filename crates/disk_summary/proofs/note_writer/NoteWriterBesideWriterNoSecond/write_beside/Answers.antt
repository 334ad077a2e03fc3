use Rattle.std.proofs.Common.{ℕ, List, subst, sym, true≢false}
use Rattle.std.proofs.lemmas.Result.{on_ok_weaker}
use Rattle.flux_base.specs.Moments.{Puts}
use Rattle.flux_base.specs.World.{sink_at}
use Rattle.flux_base.specs.lemmas.Parts.{Puts-then}
use Rattle.turn_merge.specs.Others.{has_untold, others_over}
use Rattle.disk_summary.specs.Notes.{notes_of_others, notes_of_passed}
use Rattle.disk_summary.proofs.Tracks.{joined-notes}
use Rattle.disk_summary.proofs.note_writer.NoteWriterBesideWriterNoSecond.write_beside.Goals as goal

pub returns-in-Ok-clause-wrote : goal.returns-in-Ok-clause-wrote
returns-in-Ok-clause-wrote g c = λ others stand.
    subst (λ (l : List ℕ). Puts {T = Unit {0}} (sink_at g.N.Sink c.args.notes.now) (sink_at g.N.Sink c.write_others.new.notes) l c.write_others.result)
    (joined-notes (notes_of_passed c.args.track c.args.gathered.now.passed.items) (notes_of_others c.args.track (others_over others) (has_untold others)))
    (Puts-then c.write_others.result (rw c.deref.ensures.0 at c.in-Ok.ensures) (rw (stand.told, stand.untold) at c.write_others.ensures))

pub returns-in-Ok-clause-second : goal.returns-in-Ok-clause-second
returns-in-Ok-clause-second g c = on_ok_weaker c.write_others.result (λ grew others stand sound. absurd (true≢false (sym sound))) c.write_others.ensures.ok
