use Rattle.std.proofs.Common.{◌≡◌, ◌*◌, length}
use Rattle.amiga_mfm.specs.Longs.{bytes_at}
use Rattle.amiga_mfm.proofs.longs.take_data.Given as goal

abbrev pub invariant-loop-index : goal.invariant-loop-index
invariant-loop-index l = record {
  taken : l.buffer.items ≡ bytes_at l.frame l.place 4096 l.index;
  size : length l.buffer.items ≡ 4 * l.index;
}
