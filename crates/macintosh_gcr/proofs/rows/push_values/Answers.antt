use Rattle.std.proofs.Common.{◌∙◌, ℕ, List, Bool, Ok, ap, arith, subst}
use Rattle.std.proofs.lemmas.List.{take_all}
use Rattle.std.specs.List.{flat_map}
use Rattle.cell_bits.specs.Word.{word_cells}
use Rattle.frame_law.specs.Writing.{AppendsCells}
use Rattle.frame_law.specs.lemmas.WritingLaws.{AppendsCells-short}
use Rattle.apple_nibbles.specs.Nibbles.{nibble}
use Rattle.macintosh_gcr.proofs.Groups.{nibble_cells-is}
use Rattle.macintosh_gcr.proofs.rows.push_values.Goals as goal

pub returns-in_err-push_byte : goal.returns-in_err-push_byte
returns-in_err-push_byte c =
    subst (λ (cells : List Bool). AppendsCells c.args.cells.now c.push_byte.new.cells cells c.from_residual.result) (nibble_cells-is c.args.values.now)
    (AppendsCells-short (λ value. word_cells 8 (nibble value)) c.args.values.now
    c.args.cells.now c.loop-value.cells c.push_byte.new.cells c.loop-value.value-index 0 _ c.from_residual.result c.from_residual.ensures.0
    c.loop-value-test.true c.loop-value.invariant (rw c.nibble_of.ensures at c.in_err-push_byte.ensures))

pub returns : goal.returns
returns c =
    let all = take_all c.loop-value.value-index c.args.values.now (omega arith) in
    subst (λ (cells : List Bool). AppendsCells c.args.cells.now c.loop-value.cells cells (Ok tt))
    (ap (flat_map (λ (value : ℕ). word_cells 8 (nibble value))) all ∙ nibble_cells-is c.args.values.now) c.loop-value.invariant
