use Rattle.std.proofs.Common.{◌≡◌, nat_eq, take, true}
use Rattle.std.specs.List.{list_all}
use Rattle.imd_records.proofs.record.are_alike.Given as goal

abbrev pub invariant-loop-index : goal.invariant-loop-index
invariant-loop-index l = record { alike : list_all (nat_eq l.first) (take l.index l.bytes) ≡ true }
