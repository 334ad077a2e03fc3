use Rattle.std.proofs.Common.{◌≡◌, arith}
use Rattle.macintosh_gcr.proofs.Groups.{all-values, more-values}
use Rattle.macintosh_gcr.proofs.coding.values_of.Goals as goal

pub loop-group-preserved : goal.loop-group-preserved
loop-group-preserved c =
    rw c.after_three-sums.ensures
    (more-values c.args.bytes.now c.loop-group.values.items c.loop-group.sums c.loop-group.group c.loop-group.invariant
    c.plain_at-first.result c.plain_at-second.result c.plain_at-third.result c.push_three.new.values.items c.loop-group-test.true
    c.plain_at-first.ensures c.plain_at-second.ensures c.plain_at-third.ensures c.push_three.ensures)

pub returns : goal.returns
returns c =
    let e : c.loop-group.group ≡ 174 = omega arith in
    all-values c.args.bytes.now c.loop-group.values.items c.loop-group.sums c.loop-group.group c.loop-group.invariant
    c.plain_at-first-2.result c.plain_at-second-2.result c.push_last.new.values.items e c.plain_at-first-2.ensures c.plain_at-second-2.ensures
    c.push_last.ensures
