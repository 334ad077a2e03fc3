use Rattle.std.proofs.Common.{◌≡◌, ◌≤◌, ◌+◌, ◌*◌, ◌++◌, ◌∷◌, take}
use Rattle.std.specs.List.{flat_map}
use Rattle.arrayvec.specs.ArrayVec.{array_vec_len}
use Rattle.sector_copies.specs.Texts.{two_hex}
use Rattle.sector_copies.proofs.lines.put_bytes.Given as goal

abbrev pub invariant-loop-byte : goal.invariant-loop-byte
invariant-loop-byte l = record {
  items : l.row.items ≡ l.initial.row.items ++ flat_map (λ byte. 32 ∷ two_hex byte) (take l.byte-index l.bytes);
  len : array_vec_len l.row ≤ array_vec_len l.initial.row + 3 * l.byte-index;
}
