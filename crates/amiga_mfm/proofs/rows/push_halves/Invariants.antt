use Rattle.std.proofs.Common.{take, Ok}
use Rattle.std.specs.List.{flat_map}
use Rattle.mfm_coding.specs.Writes.{AppendsSymbols}
use Rattle.amiga_mfm.proofs.Pushes.{one_half}
use Rattle.amiga_mfm.proofs.rows.push_halves.Given as goal

abbrev pub invariant-loop-long : goal.invariant-loop-long
invariant-loop-long l = AppendsSymbols l.initial.cells l.cells (flat_map (one_half l.half) (take l.long-index l.longs)) (Ok tt)
