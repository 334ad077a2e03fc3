use Rattle.std.proofs.Common.{◌≡◌, ◌∙◌, ℕ, subst, arith}
use Rattle.told_disks.proofs.Counting.{AreMarkedTo, IsMost, marked_all, marked_more}
use Rattle.told_disks.proofs.told.counted_in.Goals as goal

pub loop-number-preserved : goal.loop-number-preserved
loop-number-preserved c =
    let of = c.most_of.ensures in
    let same = c.from-most.ensures in
    let most : IsMost c.args.sets.now c.args.size c.from-most.result = record {
      each = λ number low. let one = of.most number low in omega (arith, one, same);
      least = λ bound each. let one = of.least bound each in omega (arith, one, same);
    } in
    marked_more c.args.sets.now c.args.size c.from-most.result c.loop-number.number c.loop-number.counted c.is_common.result c.from-count.result most
    (c.from-count.ensures ∙ c.count_of.ensures.count) c.is_common.ensures c.loop-number-test.true c.loop-number.invariant

pub returns : goal.returns
returns c =
    let end : c.loop-number.number ≡ 256 = omega (arith, c.loop-number-test.false, c.loop-number.auto.number-end) in
    marked_all c.args.sets.now c.args.size c.loop-number.counted (subst (λ (k : ℕ). AreMarkedTo c.args.sets.now c.args.size k c.loop-number.counted) end c.loop-number.invariant)
