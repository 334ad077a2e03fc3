use Rattle.std.proofs.Common.{◌≡◌, ◌≤◌, take}
use Rattle.std.specs.Prelude.{count_by}
use Rattle.name_book.specs.Book.{told_at}
use Rattle.imd_image.specs.inside.Counted.{is_of}
use Rattle.imd_image.proofs.tally.count_rows.Given as goal

abbrev pub invariant-loop-index : goal.invariant-loop-index
invariant-loop-index l = record {
  counted : l.count ≡ count_by (λ row. is_of l.state (told_at l.book row)) (take l.index l.rows);
  few : l.count ≤ l.index;
}
