use Rattle.told_disks.proofs.Spans.{tells_from, tells_no_reach, tells_no_span}
use Rattle.told_disks.proofs.told.tell.Goals as goal

pub returns-in_default : goal.returns-in_default
returns-in_default c = tells_no_span c.args.sets.now c.args.size c.counted_in-counted.result c.counted_in-counted.ensures c.in_default.ensures

pub returns-in_default-reach_of : goal.returns-in_default-reach_of
returns-in_default-reach_of c = tells_no_reach c.args.sets.now c.args.size c.in_default-reach_of.ensures

pub returns : goal.returns
returns c =
    tells_from c.args.sets.now c.args.size c.counted_in-counted.result c.counted_in-counted.ensures c.in-Some.span c.in-Some-reach_of.reach c.in-Some.ensures c.in-Some-reach_of.ensures
