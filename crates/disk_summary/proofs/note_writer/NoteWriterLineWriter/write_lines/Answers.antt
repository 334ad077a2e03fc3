use Rattle.std.proofs.Common.{ℕ, List, Err, subst}
use Rattle.flux_base.specs.Moments.{Puts}
use Rattle.flux_base.specs.World.{sink_at}
use Rattle.flux_base.specs.lemmas.Counting.{Counts-then}
use Rattle.flux_base.specs.lemmas.Parts.{Puts-cut, Puts-then}
use Rattle.flux_engine.specs.Tracks.{track_notes}
use Rattle.disk_summary.proofs.Tracks.{track-is}
use Rattle.disk_summary.proofs.note_writer.NoteWriterLineWriter.write_lines.Goals as goal

pub returns-in-Err-clause-wrote : goal.returns-in-Err-clause-wrote
returns-in-Err-clause-wrote g c = λ readings others stands stand.
    subst (λ (l : List ℕ). Puts {T = Unit {0}} (sink_at g.N.Sink c.args.notes.now) (sink_at g.N.Sink c.write_passed.new.notes) l (Err c.in-Err.failed))
    (track-is c.args.format c.args.track (track_notes readings c.args.gathered.now.passed.items others))
    (Puts-cut _ (rw c.deref.ensures.0 at c.in-Err.ensures))

pub returns-in-Err-write_sectors-clause-wrote : goal.returns-in-Err-write_sectors-clause-wrote
returns-in-Err-write_sectors-clause-wrote g c = λ readings others stands stand.
    subst (λ (l : List ℕ). Puts {T = Unit {0}} (sink_at g.N.Sink c.args.notes.now) (sink_at g.N.Sink c.write_sectors.new.notes) l (Err c.in-Err-write_sectors.failed))
    (track-is c.args.format c.args.track (track_notes readings c.args.gathered.now.passed.items others))
    (Puts-then (Err c.in-Err-write_sectors.failed) (rw c.deref.ensures.0 at c.in-Ok.ensures) (Puts-cut _ (c.in-Err-write_sectors.ensures.wrote readings stands)))

pub returns-clause-wrote : goal.returns-clause-wrote
returns-clause-wrote g c = λ readings others stands stand.
    subst (λ (l : List ℕ). Puts {T = Unit {0}} (sink_at g.N.Sink c.args.notes.now) (sink_at g.N.Sink c.write_others.new.notes) l c.write_others.result)
    (track-is c.args.format c.args.track (track_notes readings c.args.gathered.now.passed.items others))
    (Puts-then c.write_others.result (rw c.deref.ensures.0 at c.in-Ok.ensures)
    (Puts-then c.write_others.result (c.in-Ok-write_sectors.ensures.wrote readings stands) (rw (stand.told, stand.untold) at c.write_others.ensures)))

pub returns-in-Err-write_sectors-clause-counts : goal.returns-in-Err-write_sectors-clause-counts
returns-in-Err-write_sectors-clause-counts g c = Counts-then _ c.in-Ok.ensures.counts c.in-Err-write_sectors.ensures.counts

pub returns-clause-counts : goal.returns-clause-counts
returns-clause-counts g c = Counts-then _ c.in-Ok.ensures.counts (Counts-then _ c.in-Ok-write_sectors.ensures.counts c.write_others.ensures.counts)
