use Rattle.std.proofs.Common.{take, Ok}
use Rattle.frame_law.specs.Writing.{AppendsCells}
use Rattle.ibm_fm.specs.Layout.{fm_bytes}
use Rattle.ibm_fm.proofs.rows.push_bytes.Given as goal

abbrev pub invariant-loop-byte : goal.invariant-loop-byte
invariant-loop-byte l = AppendsCells l.initial.cells l.cells (fm_bytes (take l.byte-index l.bytes)) (Ok tt)
