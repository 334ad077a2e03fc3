use Rattle.flux_base.specs.lemmas.Parts.{Puts-then}
use Rattle.disk_map.proofs.dumps.write_foot.Goals as goal

pub returns-in-Ok : goal.returns-in-Ok
returns-in-Ok g c =
    Puts-then c.write_text-in-Ok.result (rw (c.counts_text.ensures, c.unread_line-counts.ensures) at c.in-Ok.ensures) (rw (c.foot_text.ensures, c.total_line.ensures) at c.write_text-in-Ok.ensures)
