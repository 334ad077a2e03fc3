use Rattle.std.proofs.Common.{◌≡◌, ◌≤◌, ◌&&◌, nat_eq, take}
use Rattle.std.specs.List.{count_by}
use Rattle.imd_records.specs.Choices.{is_kind}
use Rattle.imd_records.proofs.choice.count_of.Given as goal

abbrev pub invariant-loop-number : goal.invariant-loop-number
invariant-loop-number l = record {
  counted : l.count ≡ count_by (λ told. nat_eq told.name.code l.code && is_kind l.kind told) (take l.number l.book.told);
  few : l.count ≤ l.number;
}
