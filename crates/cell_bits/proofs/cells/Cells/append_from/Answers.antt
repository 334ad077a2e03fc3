use Rattle.std.proofs.Common.{ℕ, ◌+◌, ◌≤◌, ◌++◌, ◌∙◌, ap, arith, length}
use Rattle.cell_bits.specs.Word.{word_cells}
use Rattle.cell_bits.proofs.Copies.{next-copied, room-left}
use Rattle.cell_bits.proofs.cells.Cells.append_from.Goals as goal

pub returns-in_err-push_word-clause-succeeds : goal.returns-in_err-push_word-clause-succeeds
returns-in_err-push_word-clause-succeeds c fits =
    let within : c.loop-place.place + c.min-count.result ≤ length c.args.other.now.cells = omega arith in
    let no = c.in_err-push_word.ensures.succeeds
    (room-left c.args.self.now c.loop-place.self c.args.other.now.cells c.args.from c.loop-place.place c.min-count.result c.loop-place.invariant within fits) in
    absurd cc

pub loop-place-preserved : goal.loop-place-preserved
loop-place-preserved c =
    let within : c.loop-place.place + c.min-count.result ≤ length c.args.other.now.cells = omega arith in
    next-copied c.args.self.now c.loop-place.self c.push_word.new.self c.args.other.now.cells c.args.from c.loop-place.place c.min-count.result
    c.loop-place.invariant within
    (c.in_ok-push_word.ensures.cells ∙ ap (λ (n : ℕ). c.loop-place.self.cells ++ word_cells c.min-count.result n) c.word_at.ensures) c.push_word.ensures.room
