use Rattle.std.proofs.Common.{◌≡◌, false, nat_eq, take}
use Rattle.std.specs.List.{list_any}
use Rattle.imd_records.proofs.rows.is_row.Given as goal

abbrev pub invariant-loop-row : goal.invariant-loop-row
invariant-loop-row l = record { none : list_any (nat_eq l.number) (take l.row-index l.rows) ≡ false }
