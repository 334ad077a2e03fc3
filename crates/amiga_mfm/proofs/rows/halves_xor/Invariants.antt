use Rattle.std.proofs.Common.{◌≡◌, map, take}
use Rattle.check_values.specs.Sums.{xor}
use Rattle.amiga_mfm.specs.Longs.{half_of}
use Rattle.amiga_mfm.proofs.rows.halves_xor.Given as goal

abbrev pub invariant-loop-long : goal.invariant-loop-long
invariant-loop-long l = l.sum ≡ xor (map (half_of l.half) (take l.long-index l.longs))
