use Rattle.std.proofs.Common.{◌≡◌, ◌++◌, ◌*◌, drop, length}
use Rattle.amiga_mfm.specs.Longs.{longs_of}
use Rattle.amiga_mfm.proofs.longs.longs_in.Given as goal

abbrev pub invariant-loop-index : goal.invariant-loop-index
invariant-loop-index l = record {
  taken : longs_of l.bytes ≡ l.longs.items ++ longs_of (drop (4 * l.index) l.bytes);
  size : length l.longs.items ≡ l.index;
}
