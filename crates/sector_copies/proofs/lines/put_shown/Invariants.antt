use Rattle.std.proofs.Common.{◌≡◌, ◌≤◌, ◌+◌, ◌++◌, map, take}
use Rattle.arrayvec.specs.ArrayVec.{array_vec_len}
use Rattle.sector_copies.specs.Texts.{shown}
use Rattle.sector_copies.proofs.lines.put_shown.Given as goal

abbrev pub invariant-loop-byte : goal.invariant-loop-byte
invariant-loop-byte l = record {
  items : l.row.items ≡ l.initial.row.items ++ map shown (take l.byte-index l.bytes);
  len : array_vec_len l.row ≤ array_vec_len l.initial.row + l.byte-index;
}
