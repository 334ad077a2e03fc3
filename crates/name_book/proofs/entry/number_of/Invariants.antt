use Rattle.std.proofs.Common.{◌≡◌, ◌<◌, ℕ, false}
use Rattle.name_book.specs.Names.{same_sector}
use Rattle.name_book.specs.inside.Kept.{entry_at}
use Rattle.name_book.proofs.entry.number_of.Given as goal

abbrev pub invariant-loop-index : goal.invariant-loop-index
invariant-loop-index l = record {
  none : (number : ℕ) → number < l.index → same_sector (entry_at l.entries number).name l.name ≡ false;
}
