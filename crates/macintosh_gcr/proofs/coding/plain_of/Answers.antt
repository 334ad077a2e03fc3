use Rattle.std.proofs.Common.{◌≡◌, arith}
use Rattle.macintosh_gcr.proofs.Groups.{all-plain, more-plain, no-plain, not-plain}
use Rattle.macintosh_gcr.proofs.coding.plain_of.Goals as goal

pub loop-group-init : goal.loop-group-init
loop-group-init c = rw c.new-plain.ensures (no-plain c.args.values.now)

pub loop-group-preserved : goal.loop-group-preserved
loop-group-preserved c =
    more-plain c.args.values.now c.loop-group.plain.items c.take_three-sums.new.plain.items c.loop-group.sums c.take_three-sums.result c.loop-group.group
    c.loop-group.invariant c.take_three-sums.ensures

pub returns-then-has_check-clause-some : goal.returns-then-has_check-clause-some
returns-then-has_check-clause-some c =
    let e : c.loop-group.group ≡ 174 = omega arith in
    all-plain c.args.values.now c.loop-group.plain.items c.take_two-after.new.plain.items c.loop-group.sums c.take_two-after.result c.loop-group.group e
    c.requires.size c.loop-group.invariant c.take_two-after.ensures (c.has_check.ensures.0 c.if-has_check.true)

pub returns-clause-none : goal.returns-clause-none
returns-clause-none c =
    let e : c.loop-group.group ≡ 174 = omega arith in
    not-plain c.args.values.now c.loop-group.plain.items c.take_two-after.new.plain.items c.loop-group.sums c.take_two-after.result c.loop-group.group e
    c.requires.size c.loop-group.invariant c.take_two-after.ensures (λ same.
    let yes = c.has_check.ensures.1 same in
    let no = c.if-has_check.false in
    cc)
