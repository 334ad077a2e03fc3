use Rattle.std.proofs.Common.{◌≡◌, false, take}
use Rattle.std.specs.List.{list_any}
use Rattle.imd_records.specs.Choices.{is_kind}
use Rattle.imd_records.proofs.choice.has_kind.Given as goal

abbrev pub invariant-loop-number : goal.invariant-loop-number
invariant-loop-number l = record { none : list_any (is_kind l.kind) (take l.number l.book.told) ≡ false }
