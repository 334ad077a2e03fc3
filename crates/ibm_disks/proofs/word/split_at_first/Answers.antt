use Rattle.std.proofs.Common.{◌≡◌, ◌+◌, suc, arith, subst, take, ℕ}
use Rattle.std.proofs.lemmas.List.{take_all}
use Rattle.ibm_disks.specs.Words.{HasNo}
use Rattle.ibm_disks.proofs.Splits.{no-more, no-split}
use Rattle.ibm_disks.proofs.word.split_at_first.Goals as goal

pub loop-index-preserved : goal.loop-index-preserved
loop-index-preserved c =
    let next : suc c.loop-index.index ≡ c.loop-index.index + 1 = omega arith in
    subst (λ (n : ℕ). HasNo c.args.stop (take n c.args.text.now)) next
    (no-more c.args.stop c.args.text.now c.loop-index.index (omega arith) (λ same. omega (arith, same)) c.loop-index.invariant)

pub returns-clause-none : goal.returns-clause-none
returns-clause-none c = λ front rest same.
    no-split c.args.stop c.args.text.now front rest
    (subst (HasNo c.args.stop) (take_all c.loop-index.index c.args.text.now (omega arith)) c.loop-index.invariant) same
