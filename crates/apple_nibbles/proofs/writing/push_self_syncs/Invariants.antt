use Rattle.std.proofs.Common.{Ok}
use Rattle.frame_law.specs.Writing.{AppendsCells}
use Rattle.apple_nibbles.specs.Marks.{self_syncs}
use Rattle.apple_nibbles.proofs.writing.push_self_syncs.Given as goal

abbrev pub invariant-loop : goal.invariant-loop
invariant-loop l = AppendsCells l.initial.cells l.cells (self_syncs l.counter) (Ok tt)
