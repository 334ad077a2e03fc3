use Rattle.std.proofs.Common.{◌≡◌}
use Rattle.check_values.specs.Sums.{xor}
use Rattle.amiga_mfm.specs.Longs.{raw_longs}
use Rattle.amiga_mfm.proofs.longs.check_at.Given as goal

abbrev pub invariant-loop-index : goal.invariant-loop-index
invariant-loop-index l = l.sum ≡ xor (raw_longs l.frame l.offset l.index)
