use Rattle.std.proofs.Common.{◌≡◌, false, nat_eq, not, take}
use Rattle.std.specs.List.{list_any}
use Rattle.name_book.specs.Book.{told_at}
use Rattle.imd_records.proofs.record.has_other_cylinder.Given as goal

abbrev pub invariant-loop-index : goal.invariant-loop-index
invariant-loop-index l = record { none : list_any (λ row. not (nat_eq (told_at l.book row).name.cylinder l.track.cylinder)) (take l.index l.rows) ≡ false }
