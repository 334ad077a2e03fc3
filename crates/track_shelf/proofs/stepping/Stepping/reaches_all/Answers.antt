use Rattle.std.proofs.Common.{◌≤◌, length, arith}
use Rattle.sector_images.specs.Places.{tracks}
use Rattle.track_shelf.proofs.Reaching.{all-reached, not-reached, reached-more}
use Rattle.track_shelf.proofs.stepping.Stepping.reaches_all.Goals as goal

pub loop-number-preserved : goal.loop-number-preserved
loop-number-preserved c =
    reached-more c.args.self c.args.format c.loop-number.number c.track_id.result c.track_id.ensures.at c.reaches.result c.reaches.ensures c.if-not-reaches.false c.loop-number.invariant

pub returns-then-not-reaches : goal.returns-then-not-reaches
returns-then-not-reaches c = not-reached c.args.self c.args.format c.loop-number.number c.track_id.result c.track_id.ensures.at c.reaches.result c.reaches.ensures c.if-not-reaches.true

pub returns : goal.returns
returns c =
    let all : length (tracks c.args.format) ≤ c.loop-number.number = omega arith in
    all-reached c.args.self c.args.format c.loop-number.number all c.loop-number.invariant
