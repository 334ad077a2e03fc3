use Rattle.std.proofs.Common.{arith, ◌∙◌}
use Rattle.apple_gcr.proofs.FourBytes.{each_of_four, four_numbers}
use Rattle.apple_gcr.proofs.FourCodes.{IsNibbleAt}
use Rattle.apple_gcr.proofs.data_field.four_codes.Goals as goal

pub returns-clause-nibbles : goal.returns-clause-nibbles
returns-clause-nibbles c =
    let frame = c.args.frame.now in
    let from = c.args.from in
    let numbers = four_numbers frame from c.word_at-cells.result (c.requires.within (omega (arith, c.if-left-lt-FOUR.false))) c.word_at-cells.ensures in
    let first = c.in_ok-value_of in
    let second = c.in_ok-value_of-2 in
    let third = c.in_ok-value_of-3 in
    let fourth = c.in_ok-value_of-4 in
    each_of_four (λ code place. IsNibbleAt frame code place) from first.field-0 second.field-0 third.field-0 fourth.field-0
    (first.ensures.some.0, first.ensures.some.1 ∙ numbers.0)
    (second.ensures.some.0, second.ensures.some.1 ∙ numbers.1)
    (third.ensures.some.0, third.ensures.some.1 ∙ numbers.2)
    (fourth.ensures.some.0, fourth.ensures.some.1 ∙ numbers.3)
