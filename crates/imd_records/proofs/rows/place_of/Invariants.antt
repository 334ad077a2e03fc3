use Rattle.std.proofs.Common.{◌≡◌, ◌<◌, ℕ, false, get_or}
use Rattle.name_book.specs.Book.{told_at}
use Rattle.name_book.specs.Names.{is_before}
use Rattle.imd_records.proofs.rows.place_of.Given as goal

abbrev pub invariant-loop-index : goal.invariant-loop-index
invariant-loop-index l = record {
  none : (k : ℕ) → k < l.index → is_before (told_at l.book l.number).place (told_at l.book (get_or l.rows k 0)).place ≡ false;
}
