use Rattle.std.proofs.Common.{take, Ok}
use Rattle.frame_law.specs.Writing.{AppendsCells}
use Rattle.commodore_gcr.specs.Coding.{gcr_bytes}
use Rattle.commodore_gcr.proofs.rows.push_bytes.Given as goal

abbrev pub invariant-loop-byte : goal.invariant-loop-byte
invariant-loop-byte l = AppendsCells l.initial.cells l.cells (gcr_bytes (take l.byte-index l.bytes)) (Ok tt)
