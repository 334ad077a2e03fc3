use Rattle.std.proofs.Common.{Err}
use Rattle.std.specs.Prelude.{flat_map}
use Rattle.flux_base.specs.lemmas.Parts.{Puts-cut, Puts-then}
use Rattle.imd_records.specs.Modes.{modes}
use Rattle.imd_image.specs.Lines.{left_by}
use Rattle.imd_image.specs.inside.Finding.{found_in}
use Rattle.imd_image.proofs.telling.write_lines.Goals as goal

pub returns-in-Err-write_sectors : goal.returns-in-Err-write_sectors
returns-in-Err-write_sectors g c =
    Puts-then (Err c.in-Err-write_sectors.failed) (rw c.as_slice.ensures.value at c.in-Ok.ensures)
    (Puts-cut (flat_map (left_by (found_in c.args.room.now)) modes) c.in-Err-write_sectors.ensures)

pub returns : goal.returns
returns g c =
    Puts-then c.write_left.result (rw c.as_slice.ensures.value at c.in-Ok.ensures)
    (Puts-then c.write_left.result c.in-Ok-write_sectors.ensures c.write_left.ensures)
