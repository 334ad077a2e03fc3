use Rattle.std.proofs.Common.{◌≡◌, ◌≤◌, take}
use Rattle.std.specs.Prelude.{count_by}
use Rattle.imd_image.specs.inside.Counted.{is_for}
use Rattle.imd_image.proofs.tally.count_passed.Given as goal

abbrev pub invariant-loop-index : goal.invariant-loop-index
invariant-loop-index l = record {
  counted : l.count ≡ count_by (is_for l.cause) (take l.index l.passed);
  few : l.count ≤ l.index;
}
