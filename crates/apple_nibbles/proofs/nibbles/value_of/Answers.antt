use Rattle.std.proofs.Common.{ℕ, ◌<◌, get_or, ap, sym, ◌∙◌, arith}
use Rattle.apple_nibbles.specs.declared.nibbles.TheConstants.{VALUES_BY_BYTE}
use Rattle.apple_nibbles.specs.lemmas.NibbleLaws.{nibble-of_value, value-fits, value-of_nibble}
use Rattle.apple_nibbles.proofs.nibbles.value_of.Goals as goal

pub returns-then-value-clause-none : goal.returns-then-value-clause-none
returns-then-value-clause-none c = λ v within same.
    let found = ap (λ (b : ℕ). get_or VALUES_BY_BYTE b 0) (sym same) ∙ value-of_nibble v within in
    omega (arith, found, c.if-value.true, within)

pub returns-else-value-clause-some : goal.returns-else-value-clause-some
returns-else-value-clause-some c =
    let byte : c.args.byte < 256 = omega (arith, c.ranges.byte.fits) in
    (value-fits c.args.byte byte c.if-value.false, nibble-of_value c.args.byte byte c.if-value.false)
