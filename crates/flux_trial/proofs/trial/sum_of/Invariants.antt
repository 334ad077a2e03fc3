use Rattle.std.proofs.Common.{◌≡◌, ◌≤◌, ◌*◌, sum, take}
use Rattle.flux_trial.proofs.trial.sum_of.Given as goal

abbrev pub invariant-loop-byte : goal.invariant-loop-byte
invariant-loop-byte l = record {
  value : l.total ≡ sum (take l.byte-index l.bytes);
  bound : l.total ≤ 255 * l.byte-index;
}
