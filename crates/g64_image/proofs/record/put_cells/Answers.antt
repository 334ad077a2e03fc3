use Rattle.std.proofs.Common.{◌≡◌, ◌*◌, ◌/◌, ◌++◌, ℕ, map, length, ap, ◌∙◌, arith}
use Rattle.std.specs.List.{range_with_len}
use Rattle.cell_bits.specs.Word.{word}
use Rattle.g64_image.specs.Layout.{bytes_of_cells}
use Rattle.g64_image.proofs.Bytes.{cells_more, word-byte}
use Rattle.g64_image.proofs.record.put_cells.Goals as goal

pub overflow_cast-word_at : goal.overflow_cast-word_at
overflow_cast-word_at c =
    let low = word-byte c.args.ring.now.cells (8 * c.loop-index.index) in
    omega (arith, low, c.word_at.ensures)

pub loop-index-preserved : goal.loop-index-preserved
loop-index-preserved c = record {
  items = c.push.ensures.items ∙ cells_more c.args.ring.now.cells _ _ _ c.loop-index.index c.loop-index.invariant.items c.word_at.ensures;
  len = omega (arith, c.push.ensures.len, c.loop-index.invariant.len);
}

pub returns-clause-items : goal.returns-clause-items
unfolding bytes_of_cells
returns-clause-items c =
    let all : c.loop-index.index ≡ length c.args.ring.now.cells / 8 = omega arith in
    c.loop-index.invariant.items
    ∙ ap (λ (n : ℕ). c.args.track.now.items ++ map (λ (i : ℕ). word c.args.ring.now.cells (8 * i) 8) (range_with_len 0 n)) all
