use Rattle.std.proofs.Common.{◌≡◌, ◌≤◌, count_by, nat_eq, take}
use Rattle.flux_help.proofs.nearest.times.Given as goal

-- those of the letters so far
abbrev pub invariant-loop-other : goal.invariant-loop-other
invariant-loop-other l = record {
  counted : l.count ≡ count_by (λ other. nat_eq other l.letter) (take l.other-index l.word);
  few : l.count ≤ l.other-index;
}
