use Rattle.std.proofs.Common.{◌≤◌, length}
use Rattle.file_maker.proofs.memory.MemoryMaker.new.Given as goal

abbrev pub invariant-loop : goal.invariant-loop
invariant-loop l = length l.spare.items ≤ l.counter
