use Rattle.std.proofs.Common.{◌∙◌, ap, refl, sym, arith, get_or, length, List, ℕ}
use Rattle.ibm_disks.proofs.Splits.{decimal-few, decimal-first, decimal-some, none-number, some-number}
use Rattle.ibm_disks.proofs.word.number_of.Goals as goal

pub returns-then-text-eq0-clause-none : goal.returns-then-text-eq0-clause-none
returns-then-text-eq0-clause-none c = λ n small is. omega (arith, ap length is, decimal-some n small)

pub returns-then-text-gt4-clause-none : goal.returns-then-text-gt4-clause-none
returns-then-text-gt4-clause-none c = λ n small is. omega (arith, ap length is, decimal-few n small)

pub returns-clause-none : goal.returns-clause-none
returns-clause-none c = none-number c.args.text.now c.value_of.result c.value_of.ensures.none

pub returns-then-is_padded-clause-none : goal.returns-then-is_padded-clause-none
returns-then-is_padded-clause-none c = λ n small is.
    let two = c.if-is_padded.ensures.yes refl in
    let one = decimal-first n small (ap (λ (l : List ℕ). get_or l 0 0) (sym is) ∙ two.0) in
    omega (arith, one, ap length is, two.1)

pub returns-clause-some : goal.returns-clause-some
returns-clause-some c =
    some-number c.args.text.now c.value_of.result c.value_of.ensures.some (omega arith) (omega arith) (c.if-is_padded.ensures.no refl)
