use Rattle.std.proofs.Common.{◌∙◌, arith, decimal, sym}
use Rattle.ibm_disks.proofs.Splits.{decimal-no, one-split}
use Rattle.ibm_disks.proofs.word.number_before_x.Goals as goal

pub returns-in-None-clause-none : goal.returns-in-None-clause-none
returns-in-None-clause-none c = λ n rest small is.
    let split = c.in-Some.ensures.some in
    let same = one-split 120 c.in-Some.digits.now c.in-Some.rest.now (decimal n) rest split.0 (decimal-no n small 120 (omega arith)) (sym split.1 ∙ is) in
    c.in-None.ensures.none n small same.0
