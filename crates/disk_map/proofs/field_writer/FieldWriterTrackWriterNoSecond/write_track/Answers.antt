use Rattle.std.proofs.Common.{true, false, sym, true≢false}
use Rattle.flux_base.specs.lemmas.Blaming.{CountsBy-image, CountsBy-notes, CountsBy-then}
use Rattle.disk_map.proofs.field_writer.FieldWriterTrackWriterNoSecond.write_track.Goals as goal

pub returns-in-Ok-write_lines-clause-wrote : goal.returns-in-Ok-write_lines-clause-wrote
returns-in-Ok-write_lines-clause-wrote g c = λ readings others stands stand. (
  c.in-Ok.ensures.ok readings stands,
  (c.in-Ok-write_lines.ensures.wrote readings others stands stand).ok,
  c.in-Ok.ensures.totals readings stands,
)

pub returns-in-Err-write_lines-clause-wrote : goal.returns-in-Err-write_lines-clause-wrote
returns-in-Err-write_lines-clause-wrote g c = λ readings others stands stand. (
  c.in-Ok.ensures.ok readings stands,
  (c.in-Err-write_lines.ensures.wrote readings others stands stand).err,
)

pub returns-in-Err-clause-blames : goal.returns-in-Err-clause-blames
returns-in-Err-clause-blames g c = CountsBy-image _ _ true c.in-Err.ensures.counts

pub returns-in-Ok-write_lines-clause-blames : goal.returns-in-Ok-write_lines-clause-blames
returns-in-Ok-write_lines-clause-blames g c =
    CountsBy-then _ (CountsBy-image _ _ false c.in-Ok.ensures.counts) (CountsBy-notes _ _ false c.in-Ok-write_lines.ensures.counts)

pub returns-in-Err-write_lines-clause-blames : goal.returns-in-Err-write_lines-clause-blames
returns-in-Err-write_lines-clause-blames g c =
    CountsBy-then _ (CountsBy-image _ _ false c.in-Ok.ensures.counts) (CountsBy-notes _ _ true c.in-Err-write_lines.ensures.counts)

pub returns-in-Ok-write_lines-clause-second : goal.returns-in-Ok-write_lines-clause-second
returns-in-Ok-write_lines-clause-second g c = λ readings others stands stand sound. absurd (true≢false (sym sound))
