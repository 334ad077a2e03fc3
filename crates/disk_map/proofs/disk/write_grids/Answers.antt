use Rattle.std.proofs.Common.{◌+◌, flat_map}
use Rattle.std.specs.List.{range_with_len}
use Rattle.flux_base.specs.lemmas.Parts.{Puts-cut, Puts-then}
use Rattle.disk_map.specs.Texts.{grid_text}
use Rattle.disk_map.proofs.disk.write_grids.Goals as goal

pub returns-in-Ok : goal.returns-in-Ok
returns-in-Ok g c = Puts-then c.write_each_grid.result (rw c.as_bytes.ensures.value at c.in-Ok.ensures) c.write_each_grid.ensures

pub returns-in-Err : goal.returns-in-Err
returns-in-Err g c = Puts-cut (flat_map (grid_text c.args.layout) (range_with_len 0 (c.args.layout.last.head + 1))) (rw c.as_bytes.ensures.value at c.in-Err.ensures)
