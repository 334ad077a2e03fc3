use Rattle.std.proofs.Common.{◌≡◌, false, take}
use Rattle.std.specs.List.{list_any}
use Rattle.imd_image.specs.Totals.{is_elsewhere}
use Rattle.imd_image.proofs.tally.is_elsewhere.Given as goal

abbrev pub invariant-loop-number : goal.invariant-loop-number
invariant-loop-number l = record { none : list_any (is_elsewhere l.track) (take l.number l.book.told) ≡ false }
