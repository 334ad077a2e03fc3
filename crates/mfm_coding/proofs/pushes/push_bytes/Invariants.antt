use Rattle.std.proofs.Common.{take, Ok}
use Rattle.mfm_coding.specs.Coding.{bytes_as_data}
use Rattle.mfm_coding.specs.Writes.{AppendsSymbols}
use Rattle.mfm_coding.proofs.pushes.push_bytes.Given as goal

abbrev pub invariant-loop-byte : goal.invariant-loop-byte
invariant-loop-byte l = AppendsSymbols l.initial.cells l.cells (bytes_as_data (take l.byte-index l.bytes)) (Ok tt)
