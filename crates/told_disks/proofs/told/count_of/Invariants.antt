use Rattle.std.proofs.Common.{◌≡◌, ◌≤◌, count_by, take}
use Rattle.told_disks.specs.Names.{has}
use Rattle.told_disks.proofs.told.count_of.Given as goal

abbrev pub invariant-loop-set : goal.invariant-loop-set
invariant-loop-set l = record {
  counted : l.count ≡ count_by (λ set. has set l.size l.number) (take l.set-index l.sets);
  few : l.count ≤ l.set-index;
}
