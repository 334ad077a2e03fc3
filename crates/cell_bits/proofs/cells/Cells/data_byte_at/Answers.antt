use Rattle.std.proofs.Common.{◌∙◌}
use Rattle.cell_bits.proofs.Windows.{data_byte-is}
use Rattle.cell_bits.proofs.cells.Cells.data_byte_at.Goals as goal

pub returns : goal.returns
returns c = c.gathered.ensures ∙ data_byte-is _ _ _ c.window.ensures c.requires
