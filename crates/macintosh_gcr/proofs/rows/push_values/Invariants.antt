use Rattle.std.proofs.Common.{take, Ok}
use Rattle.std.specs.List.{flat_map}
use Rattle.cell_bits.specs.Word.{word_cells}
use Rattle.frame_law.specs.Writing.{AppendsCells}
use Rattle.apple_nibbles.specs.Nibbles.{nibble}
use Rattle.macintosh_gcr.proofs.rows.push_values.Given as goal

abbrev pub invariant-loop-value : goal.invariant-loop-value
invariant-loop-value l = AppendsCells l.initial.cells l.cells (flat_map (λ value. word_cells 8 (nibble value)) (take l.value-index l.values)) (Ok tt)
