use Rattle.std.proofs.Common.{ℕ, List, subst}
use Rattle.flux_base.specs.Moments.{Puts}
use Rattle.flux_base.specs.World.{sink_at}
use Rattle.flux_base.specs.lemmas.Parts.{Puts-then}
use Rattle.disk_summary.proofs.Tracks.{others-are}
use Rattle.disk_summary.proofs.note_writer.write_others.Goals as goal

pub returns-in-Ok : goal.returns-in-Ok
returns-in-Ok g c =
    subst (λ (l : List ℕ). Puts {T = Unit {0}} (sink_at g.N.Sink c.args.notes.now) (sink_at g.N.Sink c.write_if.new.notes) l c.write_if.result)
    (others-are c.args.track c.args.others.now.told c.args.others.now.untold)
    (Puts-then c.write_if.result (rw c.told.ensures at c.in-Ok.ensures) (rw c.has_untold.ensures at c.write_if.ensures))
