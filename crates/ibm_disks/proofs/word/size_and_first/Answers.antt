use Rattle.std.proofs.Common.{◌∙◌, arith, decimal, inl, inr, subst, sym}
use Rattle.ibm_disks.specs.Words.{HasNo}
use Rattle.ibm_disks.proofs.Splits.{decimal-no, no-split, one-split}
use Rattle.ibm_disks.proofs.word.size_and_first.Goals as goal

pub returns-in_default-number_of-clause-none : goal.returns-in_default-number_of-clause-none
returns-in_default-number_of-clause-none c = λ bytes first low low' ends.
    let split = c.in-Some.ensures.some in
    elim ends [
      | inl long ↦
          let same = one-split 64 c.in-Some.bytes.now c.in-Some.first.now (decimal bytes) (decimal first) split.0 (decimal-no bytes low 64 (omega arith)) (sym split.1 ∙ long) in
          c.in_default-number_of.ensures.none bytes low same.0
      | inr short ↦ no-split 64 c.args.text.now c.in-Some.bytes.now c.in-Some.first.now
          (subst (HasNo 64) (sym short.0) (decimal-no bytes low 64 (omega arith))) split.1
    ]

pub returns-in_default-number_of-2-clause-none : goal.returns-in_default-number_of-2-clause-none
returns-in_default-number_of-2-clause-none c = λ bytes first low low' ends.
    let split = c.in-Some.ensures.some in
    elim ends [
      | inl long ↦
          let same = one-split 64 c.in-Some.bytes.now c.in-Some.first.now (decimal bytes) (decimal first) split.0 (decimal-no bytes low 64 (omega arith)) (sym split.1 ∙ long) in
          c.in_default-number_of-2.ensures.none first low' same.1
      | inr short ↦ no-split 64 c.args.text.now c.in-Some.bytes.now c.in-Some.first.now
          (subst (HasNo 64) (sym short.0) (decimal-no bytes low 64 (omega arith))) split.1
    ]
