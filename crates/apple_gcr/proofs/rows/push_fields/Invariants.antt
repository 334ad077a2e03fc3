use Rattle.std.proofs.Common.{take, Ok, flat_map}
use Rattle.frame_law.specs.Writing.{AppendsCells}
use Rattle.apple_gcr.specs.FourAndFour.{four_and_four}
use Rattle.apple_gcr.proofs.rows.push_fields.Given as goal

abbrev pub invariant-loop-byte : goal.invariant-loop-byte
invariant-loop-byte l = AppendsCells l.initial.cells l.cells (flat_map four_and_four (take l.byte-index l.bytes)) (Ok tt)
