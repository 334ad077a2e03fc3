use Rattle.std.proofs.Common.{◌≡◌, length}
use Rattle.dump_numbers.proofs.Others.{IsAddedTo}
use Rattle.dump_numbers.proofs.heads.add_all.Given as goal

abbrev pub invariant-loop-number : goal.invariant-loop-number
invariant-loop-number l = record {
  added : IsAddedTo l.size l.from l.initial.to l.to l.number;
  full : length l.to ≡ length l.initial.to;
}
