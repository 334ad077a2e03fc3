use Rattle.std.proofs.Common.{◌≡◌, arith, decimal}
use Rattle.flux_words.proofs.SectorWords.{fails, holds, next-number}
use Rattle.flux_words.proofs.options.copy_number.Goals as goal

pub loop-number-preserved : goal.loop-number-preserved
loop-number-preserved c = next-number (λ k. decimal k ≡ c.args.word.now) c.loop-number.number c.loop-number.invariant (fails _ _ c.is_decimal.ensures c.if-is_decimal.false)

pub returns-then-is_decimal : goal.returns-then-is_decimal
returns-then-is_decimal c = (omega arith, holds _ _ c.is_decimal.ensures c.if-is_decimal.true)

pub returns : goal.returns
returns c = λ number named. c.loop-number.invariant number (let low = named.0 in omega (arith, low, c.loop-number-test.false)) named.1
