use Rattle.std.proofs.Common.{◌≡◌, ◌++◌, map, take, drop}
use Rattle.turn_merge.specs.Others.{is_told}
use Rattle.turn_merge.specs.inside.Others.{with_header}
use Rattle.turn_merge.proofs.others.count_header.Given as goal

abbrev pub invariant-loop-other : goal.invariant-loop-other
invariant-loop-other l = record {
  counted : l.told ≡ map (with_header l.name l.whole) (take l.other-index l.initial.told) ++ drop l.other-index l.initial.told;
  known_is : l.known ≡ is_told l.name (take l.other-index l.initial.told);
}
