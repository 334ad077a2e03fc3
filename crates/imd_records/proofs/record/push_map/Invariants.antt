use Rattle.std.proofs.Common.{◌≡◌, ◌++◌, map, take}
use Rattle.name_book.specs.Book.{told_at}
use Rattle.imd_records.specs.inside.Maps.{field_in}
use Rattle.imd_records.proofs.record.push_map.Given as goal

abbrev pub invariant-loop-index : goal.invariant-loop-index
invariant-loop-index l = record { pushed : l.begin.items ≡ l.initial.begin.items ++ map (λ row. field_in l.field (told_at l.book row).name) (take l.index l.rows) }
