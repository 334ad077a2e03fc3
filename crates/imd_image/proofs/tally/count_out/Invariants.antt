use Rattle.std.proofs.Common.{◌≡◌, ◌≤◌}
use Rattle.std.specs.Prelude.{count_by}
use Rattle.std.specs.List.{range_with_len}
use Rattle.imd_image.specs.Totals.{is_out}
use Rattle.imd_image.proofs.tally.count_out.Given as goal

abbrev pub invariant-loop-number : goal.invariant-loop-number
invariant-loop-number l = record {
  counted : l.out ≡ count_by (is_out l.rows) (range_with_len 0 l.number);
  few : l.out ≤ l.number;
}
