use Rattle.std.specs.Prelude.{codes}
use Rattle.std.specs.Io.KnownBytes.{Appends}
use Rattle.std.proofs.Common.{Some, [], refl, subst}
use Rattle.sector_images.specs.declared.format.Format.{Format}
use Rattle.disk_map.specs.Texts.{top_by}
use Rattle.disk_summary.specs.Dumps.{noted_beside, noted_track}
use Rattle.disk_archive.proofs.Readings.{texts-whole}
use Rattle.disk_archive.proofs.reading.end_texts.Goals as goal

pub returns-else-second : goal.returns-else-second
returns-else-second c = λ disk start now image before begun same has.
    texts-whole disk start now image before c.args.report.now.written _ begun c.args.second.now _ c.args.totals.now
    c.if-second.false refl has
    (λ h. c.in-Ok.ensures.whole disk start now (Some []) (Some image) (Some before) h)
    (λ drawn h. c.drawings_are_noted.ensures disk start now _ _ _ _ _
    (c.in-Ok-end_drawing.ensures.whole noted_track noted_beside disk start now (Some []) begun.image begun.notes (Some drawn) same
    (subst (λ (f : Format). Appends (Some []) begun.image (top_by (codes "read") f)) same has.begins) h))
