use Rattle.std.proofs.Common.{◌∙◌, ◌++◌, ◌∷◌, sym}
use Rattle.ibm_disks.specs.Words.{density_word, rate_word}
use Rattle.ibm_disks.proofs.Splits.{density-no, one-split, rate-no}
use Rattle.ibm_disks.proofs.word.DiskNumbers.of_word.Goals as goal

pub returns-in_default-split_at_first-clause-none : goal.returns-in_default-split_at_first-clause-none
returns-in_default-split_at_first-clause-none c = λ n short word.
    let split = c.in-Some.ensures.some in
    let first = one-split 45 c.in-Some.density.now c.in-Some.rest.now (density_word n.rate) (rate_word n.rate ++ 45 ∷ word.rest) split.0 (density-no n.rate) (sym split.1 ∙ word.is) in
    c.in_default-split_at_first.ensures.none (rate_word n.rate) word.rest first.1

pub returns-in-None-clause-none : goal.returns-in-None-clause-none
returns-in-None-clause-none c = λ n short word.
    let split = c.in-Some.ensures.some in
    let again = c.in-Some-split_at_first.ensures.some in
    let first = one-split 45 c.in-Some.density.now c.in-Some.rest.now (density_word n.rate) (rate_word n.rate ++ 45 ∷ word.rest) split.0 (density-no n.rate) (sym split.1 ∙ word.is) in
    let second = one-split 45 c.in-Some-split_at_first.name.now c.in-Some-split_at_first.rest.now (rate_word n.rate) word.rest again.0 (rate-no n.rate) (sym again.1 ∙ first.1) in
    c.in-None.ensures.none n.rate (first.0, second.0)
