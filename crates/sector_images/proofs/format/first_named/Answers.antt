use Rattle.std.proofs.Common.{◌∙◌, refl, sym}
use Rattle.sector_images.proofs.Words.{find-step, has_word}
use Rattle.sector_images.proofs.format.first_named.Goals as goal

pub loop-format-init : goal.loop-format-init
loop-format-init c = refl

pub returns-then-has_word : goal.returns-then-has_word
returns-then-has_word c =
    sym (c.loop-format.invariant
    ∙ find-step (has_word c.args.word.now) c.args.formats.now c.loop-format.format-index _ c.loop-format-test.true (sym c.has_word.ensures ∙ c.if-has_word.true))

pub loop-format-preserved : goal.loop-format-preserved
loop-format-preserved c =
    c.loop-format.invariant
    ∙ find-step (has_word c.args.word.now) c.args.formats.now c.loop-format.format-index _ c.loop-format-test.true (sym c.has_word.ensures ∙ c.if-has_word.false)
