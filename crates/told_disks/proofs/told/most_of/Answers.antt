use Rattle.std.proofs.Common.{arith}
use Rattle.told_disks.proofs.Counting.{most_each}
use Rattle.told_disks.proofs.told.most_of.Goals as goal

pub loop-number-preserved : goal.loop-number-preserved
loop-number-preserved c =
    let before = c.loop-number.invariant in
    let n = c.loop-number.number in
    let count = c.count_of.ensures.count in
    let greater = c.max-most.ensures in
    record {
      each = most_each c.args.sets.now c.args.size c.loop-number.most c.max-most.result n c.count_of.result count greater before.each;
      least = λ bound each. let one = each n in let other = before.least bound each in omega (arith, one, other, count, greater);
    }
