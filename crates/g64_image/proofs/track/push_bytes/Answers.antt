use Rattle.std.proofs.Common.{◌≡◌, ◌++◌, Bool, List, ap, arith, length, length-append}
use Rattle.cell_bits.specs.Word.{word_cells}
use Rattle.cell_bits.specs.lemmas.WordLaws.{length-word_cells}
use Rattle.g64_image.proofs.Bytes.{bytes_more, no_cells}
use Rattle.g64_image.proofs.track.push_bytes.Goals as goal

pub loop-index-init : goal.loop-index-init
loop-index-init c = record {
  cells = no_cells c.args.cells.now.cells;
  len = omega arith;
  room = omega arith;
}

pub loop-index-preserved : goal.loop-index-preserved
loop-index-preserved c =
    let long = length-append c.loop-index.cells.cells (word_cells 8 c.from.result) in
    let pushed : length c.push_word.new.self.cells ≡ length (c.loop-index.cells.cells ++ word_cells 8 c.from.result) = ap (λ (xs : List Bool). length xs) c.in-Ok.ensures.cells in record {
      cells = bytes_more c.args.bytes.now c.args.cells.now.cells c.loop-index.cells.cells c.push_word.new.self.cells c.from.result c.loop-index.index
          c.loop-index-test.true c.from.ensures c.loop-index.invariant.cells c.in-Ok.ensures.cells;
      len = omega (arith, pushed, long, length-word_cells 8 c.from.result, c.loop-index.invariant.len);
      room = omega (arith, c.loop-index.invariant.room, c.in-Ok.ensures.room);
    }
