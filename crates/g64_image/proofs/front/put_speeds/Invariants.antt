use Rattle.std.proofs.Common.{◌≡◌, ◌+◌, ◌*◌, ◌++◌}
use Rattle.std.specs.List.{flat_map, range_with_len}
use Rattle.arrayvec.specs.ArrayVec.{array_vec_len}
use Rattle.byteorder.specs.Endian.{little_bytes}
use Rattle.g64_image.specs.Layout.{speed_entry}
use Rattle.g64_image.proofs.front.put_speeds.Given as goal

abbrev pub invariant-loop-half : goal.invariant-loop-half
invariant-loop-half l = record {
  items : l.bytes.items ≡ l.initial.bytes.items ++ flat_map (λ half. little_bytes 4 (speed_entry l.format half)) (range_with_len 0 l.half);
  len : array_vec_len l.bytes ≡ 348 + 4 * l.half;
}
