use Rattle.std.proofs.Common.{◌≡◌, ◌+◌, ◌*◌, ◌++◌, map}
use Rattle.std.specs.List.{range_with_len}
use Rattle.arrayvec.specs.ArrayVec.{array_vec_len}
use Rattle.cell_bits.specs.Word.{word}
use Rattle.g64_image.proofs.record.put_cells.Given as goal

abbrev pub invariant-loop-index : goal.invariant-loop-index
invariant-loop-index l = record {
  items : l.track.items ≡ l.initial.track.items ++ map (λ i. word l.ring.cells (8 * i) 8) (range_with_len 0 l.index);
  len : array_vec_len l.track ≡ array_vec_len l.initial.track + l.index;
}
